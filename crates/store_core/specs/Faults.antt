-- Which calls fail.
use Rattle.std.specs.Prelude.{ℕ, ◌==◌, List, [], ◌∷◌, if◌then◌else◌}
use Rattle.store_core.specs.declared.faults.FaultAt.{FaultAt}
use Rattle.store_core.specs.declared.outcomes.Outcome.{Outcome}
use Rattle.store_core.specs.declared.outcomes.Outcome.TheVariants.{Took, FailedTook, FailedLost}

-- what the first fault with the number says, and else that the call takes effect
abbrev pub outcome_at : List FaultAt → ℕ → Outcome
outcome_at [] n = Took
outcome_at (f ∷ fs) n = if f.number == n then (if f.took then FailedTook else FailedLost) else outcome_at fs n
