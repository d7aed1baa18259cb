use Rattle.std.proofs.Common.{arith}
use Rattle.remap_core.proofs.OffsetLaws.{none_falls_with}
use Rattle.remap_core.proofs.binding_lists.fallen.Goals as goal

pub returns-else-get-clause-none : goal.returns-else-get-clause-none
returns-else-get-clause-none c =
    none_falls_with c.args.before.now c.args.after.now c.loop-partition.partition
    c.get-in-loop-partition.ensures.offsets.partitions c.loop-partition.invariant
    (omega (arith, c.get.ensures.next, c.get-in-loop-partition.ensures.next, c.if-get.false)) (omega arith)
