use Rattle.std.proofs.Common.{Some, sym, ap, subst, ◌∙◌}
use Rattle.update_core.specs.Frontiers.{is_at}
use Rattle.spine_core.specs.Spines.{IsSpine, spine_upper}
use Rattle.spine_core.proofs.SpineLaws.{follows_push}
use Rattle.spine_core.proofs.spines.Spine.push.Goals as goal

pub invariant_of-self-2 : goal.invariant_of-self-2
invariant_of-self-2 c =
    let lower = c.args.batch.desc.lower in
    let at = ap (λ bs. is_at (spine_upper bs) lower) c.self.view_is ∙ sym (ap (λ g. is_at g lower) c.upper-upper.ensures) ∙ sym c.is_at.ensures ∙ c.if-not-is_at.false in
    subst IsSpine (sym c.in_ok-put.ensures.ok) (follows_push (Some 0) c.self.inside.items.items c.args.batch c.self.invariant at c.requires)
