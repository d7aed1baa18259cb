-- Which fault bytes have that are no part: whole rows that rise, and then one field at fault. No numbers are read here: each case
-- says what stands in the bytes.
use Rattle.std.specs.Prelude.{◌≡◌, ◌≢◌, ◌⊎◌, ◌<◌, ◌≤◌, ◌+◌, ◌^◌, false, ℕ, pos, Option, List, [], ◌∷◌, ◌++◌, length}
use Rattle.std.specs.List.{flat_map, AllByRecursion}
use Rattle.std.specs.Int.{w32, w64, to_be_bytes}
use Rattle.update_core.specs.Limits.{max_part_rows}
use Rattle.update_core.specs.declared.updates.Update.{Update}
use Rattle.store_core.specs.Stores.{last_of}
use Rattle.part_codec.specs.declared.part_faults.PartFault.{PartFault}
use Rattle.part_codec.specs.declared.part_faults.PartFault.TheVariants as faults
use Rattle.part_codec.specs.Parts.{Fits, NonZero, Rising, row_bytes}
use Rattle.part_codec.specs.Reading.{follows}

-- the letters PART, and the form
abbrev pub letters : List ℕ
letters = 80 ∷ 65 ∷ 82 ∷ 84 ∷ []

-- they don't begin with four letters PART
abbrev pub OtherLetters : List ℕ → Type 0
OtherLetters bytes = (4 ≤ length bytes) × ((rest : List ℕ) → bytes ≢ letters ++ rest)

-- the letters, the form or the count is at fault
abbrev pub IsHeadRefused : PartFault → List ℕ → Type 0
IsHeadRefused (faults.Short p) bytes =
    ((p ≡ 0) × (length bytes < 4)) ⊎ (((p ≡ 4) × (bytes ≡ letters)) ⊎
    ((p ≡ 5) × (rest : List ℕ) × (bytes ≡ letters ++ 1 ∷ rest) × (length rest < 4)))
IsHeadRefused (faults.Magic p) bytes = (p ≡ 0) × OtherLetters bytes
IsHeadRefused (faults.Form p) bytes = (p ≡ 4) × (form : ℕ) × (rest : List ℕ) × (bytes ≡ letters ++ form ∷ rest) × (form ≢ 1)
IsHeadRefused (faults.Size p) bytes =
    (p ≡ 5) × (count : ℕ) × (rest : List ℕ) × (bytes ≡ letters ++ 1 ∷ (to_be_bytes w32 count ++ rest)) × (count < 2 ^ 32) × (max_part_rows < count)
IsHeadRefused _ bytes = ⊥

-- a datum with its length, and a time, each before what is left
abbrev pub after_datum : List ℕ → List ℕ → List ℕ
after_datum datum rest = length datum ∷ (datum ++ rest)

abbrev pub after_time : List ℕ → ℕ → List ℕ → List ℕ
after_time datum time rest = after_datum datum (to_be_bytes w64 time ++ rest)

-- 1 to 255 bytes
abbrev pub IsDatum : List ℕ → Type 0
IsDatum datum = (1 ≤ length datum) × (length datum ≤ 255)

-- The row that would begin at a place, with what is left from there on, is at fault: its length, its datum, its time, its difference,
-- or its order after the row before, if there is one.
abbrev pub IsRowRefused : Option Update → ℕ → PartFault → List ℕ → Type 0
IsRowRefused before at (faults.Short p) rest =
    ((p ≡ at) × (rest ≡ [])) ⊎
    (((p ≡ at + 1) × (len : ℕ) × (more : List ℕ) × (rest ≡ len ∷ more) × (1 ≤ len) × (length more < len)) ⊎
    (((datum : List ℕ) × (more : List ℕ) × IsDatum datum × (rest ≡ after_datum datum more) × (p ≡ at + (1 + length datum)) × (length more < 8)) ⊎
    ((datum : List ℕ) × (time : ℕ) × (more : List ℕ) × IsDatum datum × (time < 2 ^ 64) × (rest ≡ after_time datum time more) ×
    (p ≡ at + (9 + length datum)) × (length more < 8))))
IsRowRefused before at (faults.Size p) rest = (p ≡ at) × (more : List ℕ) × (rest ≡ 0 ∷ more)
IsRowRefused before at (faults.Zero p) rest =
    (datum : List ℕ) × (time : ℕ) × (more : List ℕ) × IsDatum datum × (time < 2 ^ 64) ×
    (rest ≡ after_time datum time (to_be_bytes w64 0 ++ more)) × (p ≡ at + (9 + length datum))
IsRowRefused before at (faults.Order p) rest =
    (p ≡ at) × (u : Update) × (more : List ℕ) × Fits u × (u.diff ≢ pos 0) × (rest ≡ row_bytes u ++ more) × (follows before u ≡ false)
IsRowRefused before at _ rest = ⊥

-- The head of a part of so many rows, some rows of it, and what is left.
pub record Begins (bytes : List ℕ) (count : ℕ) (rows : List Update) (rest : List ℕ) : Type 0 where
  pub few : count ≤ max_part_rows
  pub spelled : bytes ≡ letters ++ 1 ∷ (to_be_bytes w32 count ++ (flat_map row_bytes rows ++ rest))
  pub rising : Rising rows
  pub nonzero : NonZero rows
  pub fits : AllByRecursion Fits rows

-- the place at which the row after these begins
abbrev pub place_after : List Update → ℕ
place_after rows = 9 + length (flat_map row_bytes rows)

-- fewer rows than the count says, and the next one is at fault
pub record HasBadRow (fault : PartFault) (bytes : List ℕ) : Type 0 where
  pub count : ℕ
  pub rows : List Update
  pub rest : List ℕ
  pub begins : Begins bytes count rows rest
  pub more : length rows < count
  pub row : IsRowRefused (last_of rows) (place_after rows) fault rest

-- all rows, and bytes after them
pub record HasTrailing (fault : PartFault) (bytes : List ℕ) : Type 0 where
  pub rows : List Update
  pub rest : List ℕ
  pub begins : Begins bytes (length rows) rows rest
  pub some : rest ≢ []
  pub fault_is : fault ≡ faults.Trailing (place_after rows)

-- the fault of these bytes
abbrev pub IsRefused : PartFault → List ℕ → Type 0
IsRefused fault bytes = IsHeadRefused fault bytes ⊎ (HasBadRow fault bytes ⊎ HasTrailing fault bytes)
