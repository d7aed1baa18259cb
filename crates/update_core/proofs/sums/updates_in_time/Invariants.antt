use Rattle.std.proofs.Common.{◌≡◌, ◌++◌, map, length}
use Rattle.update_core.specs.Updates.{seen_time, time_entry}
use Rattle.update_core.proofs.sums.updates_in_time.Given as goal

abbrev pub invariant-loop-time : goal.invariant-loop-time
invariant-loop-time l = map time_entry l.out ++ map seen_time l.rest.items ≡ map seen_time l.fn.entries.items

abbrev pub decreases-loop-time : goal.decreases-loop-time
decreases-loop-time l = length l.rest.items
