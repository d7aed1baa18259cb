use Rattle.std.proofs.Common.{take}
use Rattle.update_core.proofs.SumsCounted.{Counting}
use Rattle.update_core.proofs.sums.sums_until.Given as goal

abbrev pub invariant-loop-update : goal.invariant-loop-update
invariant-loop-update l = Counting l.t (take l.update-index l.rows) l.sums.entries
