use Rattle.std.proofs.Common.{◌≡◌, ◌*◌, ◌≤◌, ◌^◌, take}
use Rattle.spine_core.specs.Spines.{rows_of}
use Rattle.spine_core.proofs.spines.rows_in.Given as goal

abbrev pub invariant-loop-batch : goal.invariant-loop-batch
invariant-loop-batch l = record {
  so_far : l.total ≡ rows_of (take l.batch-index l.batches);
  small : l.total ≤ l.batch-index * 2 ^ 64;
}
