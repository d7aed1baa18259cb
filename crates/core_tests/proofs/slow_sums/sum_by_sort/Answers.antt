use Rattle.std.proofs.Common.{◌≡◌, ◌∙◌, ap, map}
use Rattle.std.proofs.lemmas.Result.{IfOk-weaker}
use Rattle.update_core.specs.Updates.{IsSum, sum_of, until, datum_entry, row_entry, seen_datum}
use Rattle.update_core.proofs.UpdateLaws.{is_sum}
use Rattle.update_core.proofs.Seen.{weight_until-seen, sum-seen}
use Rattle.core_tests.proofs.slow_sums.sum_by_sort.Goals as goal

pub consolidate_by-requires : goal.consolidate_by-requires
consolidate_by-requires c =
    weight_until-seen c.args.rows.now c.args.t c.in_ok-entries.entries.items (c.in_ok-entries.ensures
    ∙ ap (λ us. map datum_entry (until c.args.t us)) c.as_slice.ensures) c.requires

pub returns-clause-sums : goal.returns-clause-sums
returns-clause-sums c =
    IfOk-weaker c.rows_in_order.result (λ out. map row_entry out ≡ map seen_datum c.from.result.items)
    (λ out. IsSum c.args.rows.now c.args.t out) (λ out made.
    sum-seen c.args.rows.now c.args.t c.in_ok-entries.entries.items c.in_ok-merged.merged.items out (c.in_ok-entries.ensures
    ∙ ap (λ us. map datum_entry (until c.args.t us)) c.as_slice.ensures)
    c.in_ok-merged.ensures (made ∙ ap (map seen_datum) c.from.ensures.0)) c.rows_in_order.ensures

pub returns-clause-exact : goal.returns-clause-exact
returns-clause-exact c =
    IfOk-weaker c.rows_in_order.result (λ out. IsSum c.args.rows.now c.args.t out) (λ out. out
    ≡ sum_of c.args.rows.now c.args.t) (is_sum c.args.rows.now c.args.t) (returns-clause-sums c)
