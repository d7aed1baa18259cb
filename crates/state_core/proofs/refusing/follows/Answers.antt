use Rattle.state_core.proofs.Following.{follows_here, follows_later, not_both, not_first}
use Rattle.state_core.proofs.refusing.follows.Goals as goal
use Rattle.state_core.proofs.refusing.follows.Goals.{else-left_before-via-then-left_before+else-is_same, else-left_before-via-else-left_before}

pub returns-then-is_same : goal.returns-then-is_same
returns-then-is_same c =
    follows_here c.loop-batch.left_before c.is_same.result c.args.left.now c.args.right.now c.args.batches.now c.loop-batch.batch-index c.batch-item.result c.loop-batch-test.true c.batch-item.is c.loop-batch.invariant c.if-left_before.true c.is_same.ensures c.if-is_same.true

pub loop-batch-preserved : goal.loop-batch-preserved
loop-batch-preserved c =
    let was = c.loop-batch.left_before in
    let right = c.args.right.now in
    let b = c.batch-item.result in
    follows_later was c.is_same-left_before.result c.args.left.now right c.args.batches.now c.loop-batch.batch-index b c.loop-batch-test.true c.batch-item.is c.loop-batch.invariant
    (elim c.else-left_before.branch [
      | else-left_before-via-then-left_before+else-is_same w ↦ not_both was w.is_same.result b right w.is_same.ensures w.if-is_same.false
      | else-left_before-via-else-left_before w ↦ not_first was b right w.if-left_before.false
    ])
    c.is_same-left_before.ensures
