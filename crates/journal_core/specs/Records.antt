-- The bytes of a journal: eight letters, and then records. Each stands behind an open gate, and a gate that isn't open ends them.
use Rattle.std.specs.Prelude.{⊤, ◌≡◌, ◌≢◌, ◌⊎◌, ℕ, zero, suc, ◌+◌, ◌≤◌, ◌<◌, ◌==◌, false, if◌then◌else◌, List, [], ◌∷◌, ◌++◌}
use Rattle.std.specs.Prelude.{length, take, drop, Option, Some, None}
use Rattle.std.specs.Int.{w64, to_be_bytes, from_be_bytes}
use Rattle.std.specs.List.{flat_map}
use Rattle.journal_core.specs.Disks.{DiskState, DiskHistory, byte_at, touched}
use Rattle.journal_core.specs.Crashes.{LeavesWhereTold}

-- a number in eight bytes
unfoldable pub number_bytes : ℕ → List ℕ
number_bytes n = to_be_bytes w64 n

-- the number of the first eight bytes
unfoldable pub number_in : List ℕ → ℕ
number_in bytes = from_be_bytes w64 (take 8 bytes)

-- the letters PERSJNL1
unfoldable pub magic : List ℕ
magic = 80 ∷ 69 ∷ 82 ∷ 83 ∷ 74 ∷ 78 ∷ 76 ∷ 49 ∷ []

-- an open gate, a length, and that many bytes
abbrev pub record_bytes : List ℕ → List ℕ
record_bytes payload = 1 ∷ (number_bytes (length payload) ++ payload)

-- what is written behind the last gate for a payload: its length, the payload, and a closed gate
abbrev pub staged_bytes : List ℕ → List ℕ
staged_bytes payload = number_bytes (length payload) ++ (payload ++ 0 ∷ [])

-- the payload, of a known length, in what is written for it
abbrev pub staged_payload : ℕ → List ℕ → List ℕ
staged_payload len bytes = take len (drop 8 bytes)

-- the letters, and the records of these payloads
abbrev pub records : List (List ℕ) → List ℕ
records payloads = magic ++ flat_map record_bytes payloads

-- a journal at rest: the letters, the records, and a closed gate
abbrev pub at_rest : List (List ℕ) → List ℕ
at_rest payloads = records payloads ++ 0 ∷ []

-- the bytes are the journal of these payloads: whatever lies behind the gate that isn't open doesn't count
pub record IsJournal (payloads : List (List ℕ)) (bytes : List ℕ) : Type 0 where
  pub gate : ℕ
  pub rest : List ℕ
  pub shut : gate ≢ 1
  pub whole : bytes ≡ records payloads ++ gate ∷ rest

-- with one more record or without it
abbrev pub IsBeforeOrAfter : List (List ℕ) → List ℕ → List ℕ → Type 0
IsBeforeOrAfter payloads payload bytes = IsJournal payloads bytes ⊎ IsJournal (payloads ++ payload ∷ []) bytes

-- what stands behind an open gate isn't a whole record with a gate after it
abbrev pub IsCutShort : List ℕ → Type 0
IsCutShort rest = length rest ≤ 8 + number_in rest

-- the payloads of the records from a gate on, so many at most
abbrev pub payloads_from : ℕ → List ℕ → List (List ℕ)
payloads_from zero bytes = []
payloads_from (suc n) [] = []
payloads_from (suc n) (gate ∷ rest) =
    if gate == 1 then take (number_in rest) (drop 8 rest) ∷ payloads_from n (drop (8 + number_in rest) rest) else []

-- the payloads of a journal
abbrev pub payloads_of : List ℕ → List (List ℕ)
payloads_of bytes = payloads_from (length bytes) (drop 8 bytes)

-- The disk is at rest with these payloads, up to its end: all of it is sure, and what was written since lies past it.
pub record Rests (s : DiskState) (end : ℕ) (payloads : List (List ℕ)) : Type 0 where
  pub bytes : s.bytes ≡ at_rest payloads
  pub ends : end + 1 ≡ length s.bytes
  pub sure : (p : ℕ) → p < length s.bytes → byte_at s.settled p ≡ byte_at s.bytes p
  pub apart : (p : ℕ) → p < length s.bytes → touched s.written p ≡ false

-- where the disk is told, it is at rest with the payloads that it has
abbrev pub IsAtRest : Option DiskHistory → ℕ → Type 0
IsAtRest None end = ⊤
IsAtRest (Some h) end = Rests h.now end (payloads_of h.now.bytes)

-- where the disk is told, it is at rest with one more payload than it had
abbrev pub HasAdded : List ℕ → Option DiskHistory → Option DiskHistory → ℕ → Type 0
HasAdded payload None new end = ⊤
HasAdded payload (Some h) new end =
    (k : DiskHistory) × (new ≡ Some k) × Rests k.now end (payloads_of h.now.bytes ++ payload ∷ [])
    × (payloads_of k.now.bytes ≡ payloads_of h.now.bytes ++ payload ∷ [])

-- where the disk is told, a crash at any moment leaves the payloads that it had, with one more or without
abbrev pub AddsSafely : List ℕ → Option DiskHistory → Option DiskHistory → Type 0
AddsSafely payload None new = new ≡ None
AddsSafely payload (Some h) new = LeavesWhereTold (IsBeforeOrAfter (payloads_of h.now.bytes) payload) (Some h) new
