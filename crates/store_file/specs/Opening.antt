-- What opening finds in the bytes of a disk.
use Rattle.std.specs.Prelude.{⊤, ◌≡◌, ◌≢◌, ◌⊎◌, ℕ, ◌<◌, List, ◌∷◌, ◌++◌, length, take, Some, None}
use Rattle.store_core.specs.Contents.{stored_of}
use Rattle.store_core.specs.Stores.{Stored}
use Rattle.journal_core.specs.Records.{magic, records, number_bytes, IsCutShort}
use Rattle.store_file.specs.declared.found.Found.{Found}
use Rattle.store_file.specs.declared.open_faults.OpenFault.{OpenFault}
use Rattle.store_file.specs.declared.open_faults.OpenFault.TheVariants as faults
use Rattle.store_file.specs.Replays.{after_record, stored_by}

-- there are fewer than nine bytes, or the first eight aren't the letters
abbrev pub IsNoStore : List ℕ → Type 0
IsNoStore bytes = (length bytes < 9) ⊎ (take 8 bytes ≢ magic)

-- a whole record stands there, and isn't a change of the store
pub record IsBadRecord (s : Stored) (bytes : List ℕ) : Type 0 where
  pub payload : List ℕ
  pub rest : List ℕ
  pub whole : bytes ≡ number_bytes (length payload) ++ (payload ++ rest)
  pub more : 0 < length rest
  pub bad : after_record s payload ≡ None

-- records that make a store, and then, behind the open gate at this place, what is no whole record or no change of that store
pub record IsDamagedAt (at : ℕ) (bytes : List ℕ) : Type 0 where
  pub payloads : List (List ℕ)
  pub made : Stored
  pub rest : List ℕ
  pub whole : bytes ≡ records payloads ++ 1 ∷ rest
  pub place : at ≡ length (records payloads)
  pub makes : stored_by payloads ≡ Some made
  pub broken : IsCutShort rest ⊎ IsBadRecord made rest

-- the fault is one of the bytes
abbrev pub IsFaultOf : List ℕ → OpenFault → Type 0
IsFaultOf bytes faults.DiskFault = ⊥
IsFaultOf bytes faults.NotAStore = IsNoStore bytes
IsFaultOf bytes (faults.Damaged at) = IsDamagedAt at bytes
IsFaultOf bytes faults.Memory = ⊤

-- the bytes are a journal whose last gate stands there, and its records make the store that was found
pub record Finds (bytes : List ℕ) (f : Found) : Type 0 where
  pub payloads : List (List ℕ)
  pub rest : List ℕ
  pub whole : bytes ≡ records payloads ++ f.gate ∷ rest
  pub shut : f.gate ≢ 1
  pub place : f.end ≡ length (records payloads)
  pub makes : stored_by payloads ≡ Some (stored_of f.contents)
