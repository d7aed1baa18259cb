use Rattle.std.proofs.Common.{◌≡◌, map}
use Rattle.std.specs.List.{filter}
use Rattle.update_core.specs.Updates.{seen_datum, row_entry}
use Rattle.update_core.proofs.SumsCounted.{is_kept}
use Rattle.update_core.proofs.sums.rows_of.Given as goal

abbrev pub invariant-loop-datum : goal.invariant-loop-datum
invariant-loop-datum l = map row_entry l.out ≡ filter is_kept (map seen_datum l.yielded)
