use Rattle.std.proofs.Common.{take}
use Rattle.spine_core.specs.Spines.{HasNoPair}
use Rattle.spine_core.proofs.spines.place_of.Given as goal

abbrev pub invariant-loop-i : goal.invariant-loop-i
invariant-loop-i l = HasNoPair l.left l.right (take l.i l.batches)
