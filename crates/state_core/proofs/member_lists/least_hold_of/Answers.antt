use Rattle.state_core.proofs.MemberLoops.{hold_more}
use Rattle.state_core.proofs.member_lists.least_hold_of.Goals as goal

pub loop-member-preserved : goal.loop-member-preserved
loop-member-preserved c = hold_more c.args.top c.loop-member.least c.with_hold-least.result c.args.members.now c.loop-member.member-index _ c.loop-member-test.true c.loop-member.invariant c.with_hold-least.ensures
