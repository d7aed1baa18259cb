use Rattle.std.proofs.Common.{ap, ◌∙◌}
use Rattle.state_core.specs.Steps.{unexpired}
use Rattle.state_core.proofs.MemberLoops.{unexpired_filter}
use Rattle.state_core.proofs.member_lists.MemberList.expire.Goals as goal

pub returns : goal.returns
returns c = c.drop_out.ensures ∙ unexpired_filter c.args.now c.self.inside.items.items ∙ ap (unexpired c.args.now) c.self.view_is
