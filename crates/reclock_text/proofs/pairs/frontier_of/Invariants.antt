use Rattle.std.proofs.Common.{◌∷◌, length}
use Rattle.reclock_text.proofs.PairWords.{Same}
use Rattle.reclock_text.proofs.pairs.frontier_of.Given as goal

abbrev pub invariant-loop-word : goal.invariant-loop-word
invariant-loop-word l = Same (32 ∷ l.fn.text) (32 ∷ l.left) l.told

abbrev pub decreases-loop-word : goal.decreases-loop-word
decreases-loop-word l = length l.left
