use Rattle.std.proofs.Common.{◌∷◌, length}
use Rattle.stops_text.proofs.StopWords.{Same}
use Rattle.stops_text.proofs.stop_lists.parse_stops.Given as goal

abbrev pub invariant-loop-word : goal.invariant-loop-word
invariant-loop-word l = Same l.fn.workers (44 ∷ l.fn.text) (44 ∷ l.left) l.stops

abbrev pub decreases-loop-word : goal.decreases-loop-word
decreases-loop-word l = length l.left
