use Rattle.std.proofs.Common.{ap, ◌∙◌}
use Rattle.state_core.specs.Steps.{changed}
use Rattle.state_core.proofs.MemberLoops.{changed_map}
use Rattle.state_core.proofs.member_lists.MemberList.replace.Goals as goal

pub returns : goal.returns
returns c =
    let m = c.args.member in
    c.put.ensures ∙ changed_map m.number m c.self.inside.items.items ∙ ap (changed m.number (λ _. m)) c.self.view_is
