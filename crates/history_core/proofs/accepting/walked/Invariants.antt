use Rattle.std.proofs.Common.{◌≡◌, take}
use Rattle.std.specs.Prelude.{reverse}
use Rattle.history_core.specs.Walks.{walk_back}
use Rattle.history_core.specs.WalkViews.{walked_of}
use Rattle.history_core.proofs.accepting.walked.Given as goal

abbrev pub invariant-loop-entry : goal.invariant-loop-entry
invariant-loop-entry l = walked_of l.walk ≡ walk_back l.fn.start (reverse (take l.entry-index l.trail))
