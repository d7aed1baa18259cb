-- Counts that rise, and what an answer says of them.
use Rattle.std.specs.Prelude.{◌≡◌, ℕ, ◌+◌, ◌-◌, ◌^◌, ◌≤◌, Result, OnErr}
use Prim.Native.Nat.{min}

-- The count rose by this much. At its last value it stands still.
abbrev pub Counts : ℕ → ℕ → ℕ → Type 0
Counts more before now = now ≡ min (before + more) (2 ^ 64 - 1)

-- The count rose by one at least. At its last value it stands still.
abbrev pub Rose : ℕ → ℕ → Type 0
Rose before now = min (before + 1) (2 ^ 64 - 1) ≤ now

-- The count never falls, and a call answers an error only where it rose.
pub record HasCause {T E : Type 0} (before now : ℕ) (result : Result T E) : Type 0 where
  pub later : before ≤ now
  pub failed : OnErr result (Rose before now)
