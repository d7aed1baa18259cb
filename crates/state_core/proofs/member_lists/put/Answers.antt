use Rattle.std.proofs.Common.{◌++◌, map, take, drop, set, get_or, cond, eqb, sym, ap, ◌∙◌, add-one}
use Rattle.update_core.proofs.UpdateLaws.{changed_more}
use Rattle.state_core.specs.declared.kinds.Kind.TheVariants.{Writer}
use Rattle.state_core.specs.declared.members.Member.{Member}
use Rattle.state_core.proofs.member_lists.put.Goals as goal

pub loop-item-preserved : goal.loop-item-preserved
loop-item-preserved c =
    let xs = c.deref_mut-item-items.result.now in
    let i = c.loop-item.item-index in
    let d : Member = record { number = 0; kind = Writer; since = 0; hold = 0; beat = 0; lease = 0; token = 0 } in
    let f : Member → Member = λ m. cond (eqb m.number c.args.member.number) c.args.member m in
    ap (set c.loop-item.item-items i) c.either.ensures
    ∙ ap (λ l. set l i (f (get_or l i d))) c.loop-item.invariant
    ∙ changed_more f xs i d c.loop-item-test.true
    ∙ ap (λ n. map f (take n xs) ++ drop n xs) (sym (add-one i))
