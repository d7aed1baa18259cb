use Rattle.std.proofs.Common.{◌≡◌, ◌++◌, take}
use Rattle.store_core.specs.Contents.{blobs_of}
use Rattle.history_core.specs.Stands.{rows_under}
use Rattle.history_core.specs.Walks.{with_blobs}
use Rattle.history_core.proofs.walks.add_parts.Given as goal

abbrev pub invariant-loop-key : goal.invariant-loop-key
invariant-loop-key l = l.rows ≡ l.initial.rows ++ rows_under (with_blobs (blobs_of l.blobs)) (take l.key-index l.keys)
