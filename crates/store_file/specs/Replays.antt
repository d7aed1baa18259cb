-- The store that the records of a journal make.
use Rattle.std.specs.Prelude.{◌≡◌, ◌⊎◌, ℕ, List, [], ◌∷◌, Option, Some, None, if◌then◌else◌}
use Rattle.std.specs.Option.{ForSome}
use Rattle.store_core.specs.declared.calls.Call.{Call}
use Rattle.store_core.specs.Stores.{Stored, empty_store, after_call}
use Rattle.store_core.specs.Changes.{changes}
use Rattle.journal_core.specs.Disks.{DiskHistory}
use Rattle.journal_core.specs.Records.{IsJournal, Rests, payloads_of}
use Rattle.store_file.specs.Payloads.{◌>>=◌, call_in}

-- the store after a change, where the call is one there: a Cas has the next number
abbrev pub taken : Stored → Call → Option Stored
taken s c = if changes s c then Some (after_call s c) else None

-- the store after a record
abbrev pub after_record : Stored → List ℕ → Option Stored
after_record s payload = do
  c ← call_in payload
  taken s c

-- the store after records
abbrev pub after_records : Stored → List (List ℕ) → Option Stored
after_records s [] = Some s
after_records s (p ∷ ps) = do
  t ← after_record s p
  after_records t ps

-- the store that a journal's records make
abbrev pub stored_by : List (List ℕ) → Option Stored
stored_by payloads = after_records empty_store payloads

-- the bytes are a journal that makes this store
pub record Stands (s : Stored) (bytes : List ℕ) : Type 0 where
  pub payloads : List (List ℕ)
  pub journal : IsJournal payloads bytes
  pub makes : stored_by payloads ≡ Some s

-- this store or that
abbrev pub StandsForEither : Stored → Stored → List ℕ → Type 0
StandsForEither s t bytes = Stands s bytes ⊎ Stands t bytes

-- the disk is at rest with a journal that makes this store
pub record Keeps (s : Stored) (end : ℕ) (h : DiskHistory) : Type 0 where
  pub rests : Rests h.now end (payloads_of h.now.bytes)
  pub makes : stored_by (payloads_of h.now.bytes) ≡ Some s

-- the same, where the disk is told
abbrev pub KeepsWhereTold : Stored → ℕ → Option DiskHistory → Type 0
KeepsWhereTold s end o = ForSome o (λ h. Keeps s end h)
