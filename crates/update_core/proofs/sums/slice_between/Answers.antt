use Rattle.std.proofs.Common.{◌≡◌, ◌∙◌, ap, map}
use Rattle.std.proofs.lemmas.Result.{IfOk-weaker}
use Rattle.update_core.specs.Updates.{IsSlice, slice_of, between, time_entry, seen_time}
use Rattle.update_core.proofs.UpdateLaws.{is_slice}
use Rattle.update_core.proofs.Seen.{weight_between-seen, slice-seen}
use Rattle.update_core.proofs.sums.slice_between.Goals as goal

pub consolidate_by-requires : goal.consolidate_by-requires
consolidate_by-requires c =
    weight_between-seen c.args.rows.now c.args.from c.args.to c.in_ok-entries.entries.items
    (c.in_ok-entries.ensures ∙ ap (λ us. map time_entry (between c.args.from c.args.to us)) c.as_slice.ensures) c.requires

pub returns-clause-sums : goal.returns-clause-sums
returns-clause-sums c =
    IfOk-weaker c.updates_in_time.result (λ out. map time_entry out ≡ map seen_time c.from.result.items) (λ out. IsSlice c.args.rows.now c.args.from c.args.to out) (λ out made.
    slice-seen c.args.rows.now c.args.from c.args.to c.in_ok-entries.entries.items c.in_ok-merged.merged.items out
    (c.in_ok-entries.ensures ∙ ap (λ us. map time_entry (between c.args.from c.args.to us)) c.as_slice.ensures)
    c.in_ok-merged.ensures (made ∙ ap (map seen_time) c.from.ensures.0)) c.updates_in_time.ensures

pub returns-clause-exact : goal.returns-clause-exact
returns-clause-exact c =
    IfOk-weaker c.updates_in_time.result (λ out. IsSlice c.args.rows.now c.args.from c.args.to out) (λ out. out ≡ slice_of c.args.rows.now c.args.from c.args.to)
    (is_slice c.args.rows.now c.args.from c.args.to) (returns-clause-sums c)
