use Rattle.std.proofs.Common.{◌≡◌, ◌++◌, length, take}
use Rattle.std.specs.List.{flat_map, AllByRecursion}
use Rattle.version_codec.specs.Versions.{number_bytes, batch_bytes, BatchFits}
use Rattle.version_codec.proofs.encoding.put_batches.Given as goal

abbrev pub invariant-loop-batch : goal.invariant-loop-batch
invariant-loop-batch l = record {
  written : l.out.items ≡ (l.fn.out.items ++ number_bytes (length l.batches)) ++ flat_map batch_bytes (take l.batch-index l.batches);
  fit : AllByRecursion BatchFits (take l.batch-index l.batches);
}
