use Rattle.std.proofs.Common.{◌≡◌, ◌+◌, ◌*◌, false, take, nat_lt}
use Rattle.spine_core.specs.Places.{AllAdjacent}
use Rattle.spine_core.proofs.spines.first_due.Given as goal

abbrev pub invariant-loop-i : goal.invariant-loop-i
invariant-loop-i l = AllAdjacent (λ a b. nat_lt (a.rows + 1) (2 * (b.rows + 1)) ≡ false) (take l.i l.batches)
