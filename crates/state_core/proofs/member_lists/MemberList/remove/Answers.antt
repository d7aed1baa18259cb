use Rattle.std.proofs.Common.{ap, ◌∙◌}
use Rattle.state_core.specs.Steps.{without}
use Rattle.state_core.proofs.MemberLoops.{without_filter}
use Rattle.state_core.proofs.member_lists.MemberList.remove.Goals as goal

pub returns : goal.returns
returns c = c.drop_number.ensures ∙ without_filter c.args.number c.self.inside.items.items ∙ ap (without c.args.number) c.self.view_is
