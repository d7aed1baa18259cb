use Rattle.std.proofs.Common.{◌≡◌, ◌++◌, take}
use Rattle.reclock_text.specs.Replies.{seen_from}
use Rattle.reclock_text.proofs.printing.put_seen.Given as goal

abbrev pub invariant-loop-partition : goal.invariant-loop-partition
invariant-loop-partition l = l.out.items ≡ l.initial.out.items ++ seen_from 0 (take l.partition l.frontier)
