-- What the calls of a disk do to it.
use Rattle.std.specs.Prelude.{⊤, ◌≡◌, ◌⊎◌, ℕ, ◌+◌, ◌≤◌, false, List, [], ◌∷◌, ◌++◌, length, take, drop, Option, Some, None}
use Rattle.std.specs.Prelude.{slice_range}
use Rattle.journal_core.specs.Disks.{DiskState, DiskHistory, Span, with_state, byte_at, in_span}

-- the bytes with others in place of those from a place on
abbrev pub over : ℕ → List ℕ → List ℕ → List ℕ
over at new old = take at old ++ (new ++ drop (at + length new) old)

-- both have the same bytes outside a span
abbrev pub SameOutside : Span → List ℕ → List ℕ → Type 0
SameOutside w old new = (p : ℕ) → in_span w p ≡ false → byte_at new p ≡ byte_at old p

-- the span of a write
abbrev pub write_span : ℕ → ℕ → Span
write_span at n = record { from = at; to = at + n }

-- the span of a cut: all that lay past the new end
abbrev pub cut_span : ℕ → List ℕ → Span
cut_span len old = record { from = len; to = length old }

-- nothing has changed
abbrev pub Same : DiskState → DiskState → Type 0
Same b s = s ≡ b

-- the bytes stand at the place
abbrev pub Wrote : ℕ → List ℕ → DiskState → DiskState → Type 0
Wrote at new b s = s ≡ record { bytes = over at new b.bytes; settled = b.settled; written = write_span at (length new) ∷ b.written }

-- a write that failed may have changed any part of its range, and counts as made
abbrev pub MayHaveWritten : ℕ → List ℕ → DiskState → DiskState → Type 0
MayHaveWritten at new b s =
    (bytes : List ℕ) × SameOutside (write_span at (length new)) b.bytes bytes
    × (s ≡ record { bytes = bytes; settled = b.settled; written = write_span at (length new) ∷ b.written })

-- the disk ends there
abbrev pub WasCut : ℕ → DiskState → DiskState → Type 0
WasCut len b s = s ≡ record { bytes = take len b.bytes; settled = b.settled; written = cut_span len b.bytes ∷ b.written }

-- a cut that failed may have changed what lies past its end, and counts as made
abbrev pub MayHaveBeenCut : ℕ → DiskState → DiskState → Type 0
MayHaveBeenCut len b s =
    (bytes : List ℕ) × SameOutside (cut_span len b.bytes) b.bytes bytes
    × (s ≡ record { bytes = bytes; settled = b.settled; written = cut_span len b.bytes ∷ b.written })

-- all is sure
abbrev pub WasSynced : DiskState → DiskState → Type 0
WasSynced b s = s ≡ record { bytes = b.bytes; settled = b.bytes; written = [] }

-- Where the disk is told, a call was one step of this kind. Where it isn't, it stays untold.
abbrev pub Steps : (DiskState → DiskState → Type 0) → Option DiskHistory → Option DiskHistory → Type 0
Steps step None new = new ≡ None
Steps step (Some h) new = (s : DiskState) × step h.now s × (new ≡ Some (with_state h s))

-- the same, or nothing has come of the call
abbrev pub MayStep : (DiskState → DiskState → Type 0) → Option DiskHistory → Option DiskHistory → Type 0
MayStep step old new = (new ≡ old) ⊎ Steps step old new

-- where the disk is told, it has this length
abbrev pub HasLength : Option DiskHistory → ℕ → Type 0
HasLength None n = ⊤
HasLength (Some h) n = n ≡ length h.now.bytes

-- where the disk is told, it is at least as long
abbrev pub Reaches : Option DiskHistory → ℕ → Type 0
Reaches None n = ⊤
Reaches (Some h) n = n ≤ length h.now.bytes

-- where the disk is told, these are its bytes from a place on
abbrev pub HasBytes : Option DiskHistory → ℕ → List ℕ → Type 0
HasBytes None at bytes = ⊤
HasBytes (Some h) at bytes = bytes ≡ slice_range h.now.bytes at (at + length bytes)
