-- What the rows of a part are, and the one spelling of them.
use Rattle.std.specs.Prelude.{◌≡◌, ◌≢◌, ◌<◌, ◌≤◌, ◌^◌, ℕ, pos, FitsSigned, List, ◌∷◌, ◌++◌, length, map}
use Rattle.std.specs.List.{flat_map, AllByRecursion}
use Rattle.std.specs.List.Sorted.{IsStrictlySortedBy}
use Rattle.std.specs.Map.{keys_of}
use Rattle.std.specs.Int.{w32, w64, to_be_bytes, cast_unsigned}
use Rattle.update_core.specs.Limits.{max_part_rows}
use Rattle.update_core.specs.declared.updates.Update.{Update}
use Rattle.update_core.specs.Updates.{moment_cmp, moment_entry}

-- a length and that many bytes, a time, and a difference in two's complement
abbrev pub row_bytes : Update → List ℕ
row_bytes u = length u.datum ∷ (u.datum ++ (to_be_bytes w64 u.time ++ to_be_bytes w64 (cast_unsigned w64 u.diff)))

-- the letters PART, the form, the count of the rows, and the rows
abbrev pub spelling : List Update → List ℕ
spelling rows = 80 ∷ 65 ∷ 82 ∷ 84 ∷ 1 ∷ (to_be_bytes w32 (length rows) ++ flat_map row_bytes rows)

-- the datum and the time of each row
abbrev pub moments : List Update → List (List ℕ × ℕ)
moments rows = keys_of (map moment_entry rows)

-- by datum and then time, and no moment twice
abbrev pub Rising : List Update → Type 0
Rising rows = IsStrictlySortedBy moment_cmp (moments rows)

-- no difference is 0
abbrev pub NonZero : List Update → Type 0
NonZero rows = AllByRecursion (λ e. e.1 ≢ pos 0) (map moment_entry rows)

-- the bounds of a datum, a time and a difference
pub record Fits (u : Update) : Type 0 where
  pub some : 1 ≤ length u.datum
  pub few : length u.datum ≤ 255
  pub time : u.time < 2 ^ 64
  pub diff : FitsSigned w64 u.diff

-- the rows of a part
pub record IsPart (rows : List Update) : Type 0 where
  pub few : length rows ≤ max_part_rows
  pub rising : Rising rows
  pub nonzero : NonZero rows
  pub fits : AllByRecursion Fits rows

-- the bytes are the part with these rows
abbrev pub Part : List Update → List ℕ → Type 0
Part rows bytes = IsPart rows × (bytes ≡ spelling rows)
