-- A disk: what a read gives, what the last sync made sure of, and what was written since.
use Rattle.std.specs.Prelude.{ℕ, Bool, false, nat_le, nat_lt, ◌&&◌, ◌||◌, List, [], ◌∷◌, zero, suc, Option, Some, None}

-- the byte at a place, where there is one
abbrev pub byte_at : List ℕ → ℕ → Option ℕ
byte_at [] p = None
byte_at (b ∷ bs) zero = Some b
byte_at (b ∷ bs) (suc p) = byte_at bs p

-- places: from one on, up to another and without it
pub record Span : Type 0 where
  pub from : ℕ
  pub to : ℕ

-- whether a place is among them
abbrev pub in_span : Span → ℕ → Bool
in_span w p = nat_le w.from p && nat_lt p w.to

-- whether a place is in one of these spans
abbrev pub touched : List Span → ℕ → Bool
touched [] p = false
touched (w ∷ ws) p = in_span w p || touched ws p

-- what a read gives, what a read gave at the last sync that succeeded, and the places written since then
pub record DiskState : Type 0 where
  pub bytes : List ℕ
  pub settled : List ℕ
  pub written : List Span

-- a disk as it is, and as it was after each call before, the newest first
pub record DiskHistory : Type 0 where
  pub now : DiskState
  pub past : List DiskState

-- as it is and as it was
abbrev pub states : DiskHistory → List DiskState
states h = h.now ∷ h.past

-- after one more call
abbrev pub with_state : DiskHistory → DiskState → DiskHistory
with_state h s = record { now = s; past = h.now ∷ h.past }

-- all of these bytes are sure
abbrev pub settled_disk : List ℕ → DiskState
settled_disk bytes = record { bytes = bytes; settled = bytes; written = [] }

-- a disk with these bytes, before any call
abbrev pub fresh_disk : List ℕ → DiskHistory
fresh_disk bytes = record { now = settled_disk bytes; past = [] }
