use Rattle.std.proofs.Common.{◌≡◌, drop}
use Rattle.state_core.specs.Refusals.{follows}
use Rattle.state_core.proofs.Following.{pending}
use Rattle.state_core.proofs.refusing.follows.Given as goal

abbrev pub invariant-loop-batch : goal.invariant-loop-batch
invariant-loop-batch l = pending l.left_before l.left l.right (drop l.batch-index l.batches) ≡ follows l.left l.right l.batches
