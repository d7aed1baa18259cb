use Rattle.std.proofs.Common.{ℕ, List, sym, subst}
use Rattle.remap_core.specs.Bound.{Rising, AllBefore}
use Rattle.remap_core.proofs.BoundLaws.{rising_push}
use Rattle.remap_core.proofs.binding_lists.Bindings.add.Goals as goal

pub invariant_of-self-2 : goal.invariant_of-self-2
invariant_of-self-2 c =
    let next : ℕ × List ℕ = (c.args.time, c.args.frontier) in
    subst Rising (sym c.in_ok-put.ensures.ok) (rising_push c.self.inside.items.items next c.self.invariant
    (subst (AllBefore next) c.deref.ensures.value c.in_default.ensures.none))
