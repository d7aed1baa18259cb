use Rattle.std.proofs.Common.{◌≡◌, ◌++◌, map, length}
use Rattle.update_core.specs.Updates.{seen_datum, row_entry}
use Rattle.core_tests.proofs.slow_sums.rows_in_order.Given as goal

abbrev pub invariant-loop-datum : goal.invariant-loop-datum
invariant-loop-datum l = map row_entry l.out ++ map seen_datum l.rest.items ≡ map seen_datum l.fn.entries.items

abbrev pub decreases-loop-datum : goal.decreases-loop-datum
decreases-loop-datum l = length l.rest.items
