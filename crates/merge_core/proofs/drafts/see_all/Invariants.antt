use Rattle.std.proofs.Common.{take}
use Rattle.std.specs.List.{AllByRecursion}
use Rattle.byte_core.specs.ByteLists.{IsBytes}
use Rattle.merge_core.proofs.drafts.see_all.Given as goal

abbrev pub invariant-loop-part : goal.invariant-loop-part
invariant-loop-part l = AllByRecursion IsBytes (take l.part-index l.parts)
