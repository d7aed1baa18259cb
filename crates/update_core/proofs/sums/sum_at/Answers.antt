use Rattle.std.proofs.Common.{◌≡◌, ◌∙◌, ap, map}
use Rattle.std.proofs.lemmas.Result.{IfOk-weaker}
use Rattle.std.specs.Cmp.Lexicographic.{slice_cmp}
use Rattle.std.specs.Ordering.{nat_cmp}
use Rattle.update_core.specs.Totals.{total, IsConsolidation}
use Rattle.update_core.specs.Updates.{IsSum, sum_of, until, datum_entry, row_entry, seen_datum}
use Rattle.update_core.proofs.UpdateLaws.{is_sum}
use Rattle.update_core.proofs.SumsCounted.{sum_from_sums}
use Rattle.update_core.proofs.sums.sum_at.Goals as goal

pub returns-clause-sums : goal.returns-clause-sums
returns-clause-sums c =
    IfOk-weaker c.rows_of.result (λ out. IsConsolidation (slice_cmp nat_cmp) (map seen_datum c.in_ok-sums.sums.entries)
    (map row_entry out)) (λ out. IsSum c.args.rows.now c.args.t out)
    (λ out made. sum_from_sums c.args.rows.now c.args.t c.in_ok-sums.sums.entries out
    (λ k. c.in_ok-sums.ensures k ∙ ap (λ us. total (slice_cmp nat_cmp) (map datum_entry
    (until c.args.t us)) k) c.as_slice.ensures) made) c.rows_of.ensures

pub returns-clause-exact : goal.returns-clause-exact
returns-clause-exact c =
    IfOk-weaker c.rows_of.result (λ out. IsSum c.args.rows.now c.args.t out) (λ out. out ≡ sum_of c.args.rows.now c.args.t)
    (is_sum c.args.rows.now c.args.t) (returns-clause-sums c)
