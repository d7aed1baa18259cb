use Rattle.std.proofs.Common.{refl, sym, ap, ◌∙◌, max}
use Rattle.state_core.specs.declared.members.Member.{Member}
use Rattle.state_core.proofs.MemberChanges.{changed_found, changed_none}
use Rattle.state_core.proofs.member_lists.MemberList.renew.Goals as goal

pub returns-in_default : goal.returns-in_default
returns-in_default c =
    let f : Member → Member = λ m. record m { beat = max m.beat c.args.now; hold = c.args.hold } in
    changed_none c.args.number f c.args.self.now (sym c.in_default.ensures)

pub returns : goal.returns
returns c =
    let f : Member → Member = λ m. record m { beat = max m.beat c.args.now; hold = c.args.hold } in
    let w : Member = c.in-Some.field-0.now in
    let new : Member = record w { beat = c.max.result; hold = c.args.hold } in
    c.replace.ensures ∙ changed_found c.args.number f w new c.args.self.now c.requires (sym c.in-Some.ensures) (ap (λ b. record w { beat = b; hold = c.args.hold }) c.max.ensures) refl
