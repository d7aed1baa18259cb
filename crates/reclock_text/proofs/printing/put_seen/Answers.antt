use Rattle.std.proofs.Common.{◌++◌, take, ap, ◌∙◌, arith}
use Rattle.reclock_text.specs.Replies.{seen_from}
use Rattle.reclock_text.proofs.Bindings.{extends_more, on_err, seen_put, seen_whole}
use Rattle.reclock_text.proofs.printing.put_seen.Goals as goal

pub returns-in_err-put_pair-clause-err : goal.returns-in_err-put_pair-clause-err
returns-in_err-put_pair-clause-err c =
    on_err c.from_residual.result
    (extends_more c.args.out.now.items c.loop-partition.out.items c.put_pair.new.out.items
    (seen_from 0 (take c.loop-partition.partition c.args.frontier.now)) c.loop-partition.invariant c.in_err-put_pair.ensures.err)

pub loop-partition-preserved : goal.loop-partition-preserved
loop-partition-preserved c =
    seen_put c.args.out.now.items c.put_pair.new.out.items c.loop-partition.out.items c.args.frontier.now c.loop-partition.partition
    c.get.result (omega (arith, c.get.ensures.offsets.partitions, c.loop-partition-test.true)) c.get.ensures.next
    c.loop-partition.invariant c.in_ok-put_pair.ensures.ok

pub returns-in_ok-put_pair-clause-ok : goal.returns-in_ok-put_pair-clause-ok
returns-in_ok-put_pair-clause-ok c =
    seen_put c.args.out.now.items c.put_pair.new.out.items c.loop-partition.out.items c.args.frontier.now c.loop-partition.partition
    c.get.result (omega (arith, c.get.ensures.offsets.partitions, c.loop-partition-test.true)) c.get.ensures.next
    c.loop-partition.invariant c.in_ok-put_pair.ensures.ok
    ∙ ap (λ l. c.args.out.now.items ++ l)
    (seen_whole c.args.frontier.now c.loop-partition.partition c.get.ensures.offsets.partitions (omega arith))
