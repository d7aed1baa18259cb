-- Which calls of a disk in memory fail.
use Rattle.std.specs.Prelude.{◌≡◌, ◌⊎◌, Contains, OnOk, OnErr, Result}
use Rattle.causes.specs.Causes.{Counts}
use Rattle.journal_core.specs.declared.tallies.Tally.{Tally}

-- the call that comes is a listed one
abbrev pub IsListed : Tally → Type 0
IsListed t = Contains t.fails t.made

-- it isn't listed, and was refused memory, which is counted
abbrev pub WasRefused : Tally → Tally → Type 0
WasRefused t u = (IsListed t → ⊥) × Counts 1 t.refused u.refused

-- A call fails where it is listed, and elsewhere only where it was refused memory. Every call is counted.
pub record FailsAsListed {A E : Type 0} (t u : Tally) (result : Result A E) : Type 0 where
  pub answers : OnOk result ((IsListed t → ⊥) × (u.refused ≡ t.refused))
  pub fails : OnErr result ((IsListed t × (u.refused ≡ t.refused)) ⊎ WasRefused t u)
  pub counted : Counts 1 t.made u.made
  pub list : u.fails ≡ t.fails
