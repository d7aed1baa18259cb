use Rattle.std.proofs.Common.{◌≡◌, take}
use Rattle.spine_core.proofs.spines.copied.Given as goal

abbrev pub invariant-loop-batch : goal.invariant-loop-batch
invariant-loop-batch l = l.copy.items ≡ take l.batch-index l.batches
