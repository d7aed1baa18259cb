-- What a crash leaves, at any moment since a store in a file was opened.
use Rattle.std.specs.Prelude.{◌≡◌, ◌≢◌, ◌⊎◌, ℕ, ◌-◌, ◌≤◌, ◌<◌, Bool, true, false, ◌&&◌, List, [], ◌∷◌, ◌++◌, length, take, map, Option, Some, if◌then◌else◌}
use Rattle.std.specs.Option.{is_some}
use Rattle.std.specs.List.{AllByRecursion}
use Rattle.std.specs.Option.{ForSome}
use Rattle.store_core.specs.declared.calls.Call.{Call}
use Rattle.store_core.specs.declared.outcomes.Outcome.{Outcome}
use Rattle.store_core.specs.declared.outcomes.Outcome.TheVariants.{Took}
use Rattle.store_core.specs.declared.entries.Entry.{Entry}
use Rattle.store_core.specs.Stores.{Stored, after_call}
use Rattle.store_core.specs.Changes.{changes}
use Rattle.store_core.specs.Histories.{History, replay}
use Rattle.journal_core.specs.Disks.{DiskState, DiskHistory, byte_at, states}
use Rattle.journal_core.specs.Crashes.{LeavesNow}
use Rattle.journal_core.specs.Records.{records, payloads_of}
use Rattle.store_file.specs.Payloads.{call_in, payload_of}
use Rattle.store_file.specs.Replays.{Stands, stored_by}

-- each call was done
abbrev pub AllDone : List Entry → Type 0
AllDone entries = AllByRecursion (λ e. e.outcome ≡ Took) entries

-- the bytes stand for a store after the next entry's call, where one comes
abbrev pub StandsWithNext : Stored → List Entry → List ℕ → Type 0
StandsWithNext s [] bytes = ⊥
StandsWithNext s (e ∷ rest) bytes = Stands (after_call s e.call) bytes

-- The bytes stand for the store after the first calls of a history, each of which was done, or after them and the next one: that
-- in which the crash came, or in which the disk failed.
pub record StandsForFirst (h : History) (bytes : List ℕ) : Type 0 where
  pub front : List Entry
  pub rest : List Entry
  pub trail : h.trail ≡ front ++ rest
  pub done : AllDone front
  pub stands : Stands (replay h.start front) bytes ⊎ StandsWithNext (replay h.start front) rest bytes

-- ---- as a store keeps it

-- whether a call was answered other than Failed
abbrev pub is_done : Outcome → Bool
is_done Took = true
is_done _ = false

-- whether each was
abbrev pub all_done : List Entry → Bool
all_done [] = true
all_done (e ∷ es) = is_done e.outcome && all_done es

-- a call that changes a store, or none
abbrev pub change_of : Stored → Call → List Call
change_of s c = if changes s c then c ∷ [] else []

-- the changes among entries, up to the first call that failed and with it
abbrev pub changed : Stored → List Entry → List Call
changed s [] = []
changed s (e ∷ es) = change_of s e.call ++ (if is_done e.outcome then changed (after_call s e.call) es else [])

-- their records are read back
abbrev pub AreSpelled : Stored → List Entry → Type 0
AreSpelled start trail = map call_in (map payload_of (changed start trail)) ≡ map Some (changed start trail)

-- the bytes begin with the records of these payloads, and no open gate comes after them
abbrev pub HasJust : List (List ℕ) → List ℕ → Type 0
HasJust payloads bytes =
    (take (length (records payloads)) bytes ≡ records payloads) × (length (records payloads) < length bytes) ×
    (byte_at bytes (length (records payloads)) ≢ Some 1)

-- the bytes are the journal of the first of these payloads, so many at least
abbrev pub HasFirst : ℕ → List (List ℕ) → List ℕ → Type 0
HasFirst least payloads bytes =
    (take (length (payloads_of bytes)) payloads ≡ payloads_of bytes) × (least ≤ length (payloads_of bytes)) ×
    HasJust (payloads_of bytes) bytes

-- how a disk was after each call since another moment
abbrev pub since : DiskHistory → DiskHistory → List DiskState
since o h = take (length (states h) - length (states o)) (states h)

-- the records with which a disk was opened, and those of the changes since then
abbrev pub to_record : DiskHistory → Stored → List Entry → List (List ℕ)
to_record o start trail = payloads_of o.now.bytes ++ map payload_of (changed start trail)

-- a crash leaves the records from the opening, and the first of those since then
abbrev pub LeavesFirst : DiskHistory → Stored → List Entry → DiskState → Type 0
LeavesFirst o start trail s = LeavesNow (HasFirst (length (payloads_of o.now.bytes)) (to_record o start trail)) s

-- it does so at any moment since the disk was opened
abbrev pub SafeSince : DiskHistory → Stored → List Entry → DiskHistory → Type 0
SafeSince o start trail h =
    (states h ≡ since o h ++ states o) × LeavesFirst o start trail o.now × AllByRecursion (LeavesFirst o start trail) (since o h)

-- the same where the disk is told
abbrev pub SafeWhereTold : Option DiskHistory → Stored → List Entry → Option DiskHistory → Type 0
SafeWhereTold opened start trail now = ForSome opened (λ o. ForSome now (λ h. SafeSince o start trail h))

-- where the disk is told, it has all of these records
abbrev pub RecordedWhereTold : Option DiskHistory → Stored → List Entry → Option DiskHistory → Type 0
RecordedWhereTold opened start trail now = ForSome opened (λ o. ForSome now (λ h. payloads_of h.now.bytes ≡ to_record o start trail))

-- where the disk is told, the records that it was opened with made the start
abbrev pub MadeStart : Option DiskHistory → Stored → Type 0
MadeStart opened start = ForSome opened (λ o. stored_by (payloads_of o.now.bytes) ≡ Some start)

-- the disk is told now exactly where it was told then
abbrev pub ToldAsMuch : Option DiskHistory → Option DiskHistory → Type 0
ToldAsMuch opened now = is_some opened ≡ is_some now
