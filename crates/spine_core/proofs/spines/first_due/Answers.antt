use Rattle.std.proofs.Common.{arith}
use Rattle.spine_core.proofs.Halving.{due_found, due_kept, due_nowhere}
use Rattle.spine_core.proofs.spines.first_due.Goals as goal

pub returns-then-left-right : goal.returns-then-left-right
returns-then-left-right c =
    due_found c.args.batches.now c.loop-i.i c.index-batches-i.result c.index-batches-i-in-loop-i.result (omega arith) c.loop-i-test.true c.loop-i.invariant c.if-left-right.true

pub loop-i-preserved : goal.loop-i-preserved
loop-i-preserved c =
    due_kept c.args.batches.now c.loop-i.i c.index-batches-i.result c.index-batches-i-in-loop-i.result (omega arith) c.loop-i-test.true c.loop-i.invariant c.if-left-right.false

pub returns : goal.returns
returns c = due_nowhere c.args.batches.now c.loop-i.i c.loop-i-test.false c.loop-i.invariant
