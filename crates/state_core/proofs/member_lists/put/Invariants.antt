use Rattle.std.proofs.Common.{◌≡◌, ◌++◌, map, take, drop, cond, eqb}
use Rattle.state_core.proofs.member_lists.put.Given as goal

abbrev pub invariant-loop-item : goal.invariant-loop-item
invariant-loop-item l = l.item-items ≡ map (λ m. cond (eqb m.number l.member.number) l.member m) (take l.item-index l.initial.item-items) ++ drop l.item-index l.initial.item-items
