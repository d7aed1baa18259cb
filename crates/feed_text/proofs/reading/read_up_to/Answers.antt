use Rattle.std.proofs.Common.{◌-◌, arith}
use Rattle.feed_text.proofs.Streams.{so_far_and}
use Rattle.feed_text.proofs.reading.read_up_to.Goals as goal

pub returns-in_err-read_more-clause-reading : goal.returns-in_err-read_more-clause-reading
returns-in_err-read_more-clause-reading g c =
    so_far_and c.args.limit (c.args.limit - c.len-in-loop-text.result) _ _ _ _ _ _ c.loop-text.text.items c.loop-text.invariant.so_far c.read_more.ensures.reading (omega arith)

pub returns-then-branch-eq0-clause-reading : goal.returns-then-branch-eq0-clause-reading
returns-then-branch-eq0-clause-reading g c =
    so_far_and c.args.limit (c.args.limit - c.len-in-loop-text.result) _ _ _ _ _ _ c.loop-text.text.items c.loop-text.invariant.so_far c.read_more.ensures.reading (omega arith)
