use Rattle.std.proofs.Common.{◌≡◌, map, take}
use Rattle.update_core.specs.Updates.{seen_time, time_entry, between}
use Rattle.update_core.proofs.sums.entries_between.Given as goal

abbrev pub invariant-loop-update : goal.invariant-loop-update
invariant-loop-update l = map seen_time l.out.items ≡ map time_entry (between l.from l.to (take l.update-index l.rows))
