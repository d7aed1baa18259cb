use Rattle.std.proofs.Common.{arith}
use Rattle.reclock_client.specs.Minting.{rise_of}
use Rattle.reclock_client.proofs.MintRows.{next, start}
use Rattle.reclock_client.proofs.mints.mint_rows.Goals as goal

pub loop-partition-init : goal.loop-partition-init
loop-partition-init c = record { left = start c.args.time c.args.had.now c.args.seen.now c.new-rows.result c.new-rows.ensures }

pub loop-partition-preserved : goal.loop-partition-preserved
loop-partition-preserved c = record {
  left = next (rise_of c.args.time c.args.had.now c.args.seen.now) c.loop-partition.partition c.loop-partition.rows
      c.put_rise.new.rows _ (omega arith)
      c.in_ok-put_rise.ensures c.loop-partition.invariant.left;
}
