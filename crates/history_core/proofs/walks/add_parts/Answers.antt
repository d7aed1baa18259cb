use Rattle.std.proofs.Common.{◌<◌, length, arith}
use Rattle.store_core.specs.Contents.{blobs_of}
use Rattle.history_core.specs.Walks.{with_blobs}
use Rattle.history_core.proofs.WalkSteps.{one_more_key}
use Rattle.history_core.proofs.walks.add_parts.Goals as goal

pub loop-key-preserved : goal.loop-key-preserved
loop-key-preserved c =
    let lt : c.loop-key.key-index < length c.args.keys.now = omega arith in
    one_more_key (with_blobs (blobs_of c.args.blobs.now)) c.loop-key.rows c.add_part.new.rows c.args.keys.now c.loop-key.key-index _ c.args.rows.now lt c.loop-key.invariant c.in_ok-add_part.ensures
