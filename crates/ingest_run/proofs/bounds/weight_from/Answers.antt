use Rattle.std.proofs.Common.{arith}
use Rattle.ingest_run.proofs.BoundLaws.{added_small, sum_all}
use Rattle.ingest_run.proofs.bounds.weight_from.Goals as goal

pub overflow_add-sum : goal.overflow_add-sum
overflow_add-sum c =
    let small = added_small c.loop-append.begun c.args.upper c.args.appends.now c.loop-append.append-index c.append-item.result
    c.counts-begun.result c.counted_weight-sum.result c.loop-append.sum c.loop-append-test.true c.append-item.is c.counts-begun.ensures
    c.counted_weight-sum.ensures c.loop-append.invariant c.requires.light in
    omega (arith, small)

pub returns-clause-small : goal.returns-clause-small
returns-clause-small c =
    let small = sum_all c.loop-append.begun c.args.upper c.args.appends.now c.loop-append.append-index c.loop-append.sum c.loop-append.invariant
    c.requires.light in
    omega (arith, small)
