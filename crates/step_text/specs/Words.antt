-- Names and counts in the lines of a schedule.
use Rattle.std.specs.Prelude.{ℕ, ◌≤◌, ◌⊎◌, List, length}
use Rattle.std.specs.Int.{IsInRange}
use Rattle.std.specs.List.{AllByRecursion}
use Rattle.step_text.specs.declared.names.TheConstants.{MAX_NAME}
use Rattle.step_text.specs.declared.counts.TheConstants.{MAX_POLLS}

-- an ASCII letter
abbrev pub IsLetter : ℕ → Type 0
IsLetter b = IsInRange 65 90 b ⊎ IsInRange 97 122 b

-- 1 to 8 letters
pub record IsName (word : List ℕ) : Type 0 where
  pub some : 1 ≤ length word
  pub few : length word ≤ MAX_NAME
  pub letters : AllByRecursion IsLetter word

-- 1 to 1,000,000
abbrev pub IsPolls : ℕ → Type 0
IsPolls n = (1 ≤ n) × (n ≤ MAX_POLLS)
