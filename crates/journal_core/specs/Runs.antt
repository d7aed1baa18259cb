-- Records that are added one after another.
use Rattle.std.specs.Prelude.{⊤, ℕ, ◌≤◌, List, [], ◌∷◌, ◌++◌, length, take, map, Some}
use Rattle.journal_core.specs.Disks.{DiskHistory}
use Rattle.journal_core.specs.Crashes.{LeavesNow}
use Rattle.journal_core.specs.Records.{IsJournal, payloads_of, HasAdded, AddsSafely}

-- a payload that was added, and the disk once that was answered
pub record Added : Type 0 where
  pub payload : List ℕ
  pub disk : DiskHistory
  pub end : ℕ

-- each was added to the disk that the one before left
abbrev pub IsRun : DiskHistory → List Added → Type 0
IsRun h [] = ⊤
IsRun h (a ∷ run) = AddsSafely a.payload (Some h) (Some a.disk) × HasAdded a.payload (Some h) (Some a.disk) a.end × IsRun a.disk run

-- the disk after all of them
abbrev pub after_run : DiskHistory → List Added → DiskHistory
after_run h [] = h
after_run h (a ∷ run) = after_run a.disk run

-- the payloads in order
abbrev pub payloads_in : List Added → List (List ℕ)
payloads_in run = map (λ a. a.payload) run

-- the journal has the payloads from before a run, and some of the run's, the first of them first
abbrev pub HasFirstOf : DiskHistory → List Added → List ℕ → Type 0
HasFirstOf h run c = (n : ℕ) × (n ≤ length run) × IsJournal (payloads_of h.now.bytes ++ take n (payloads_in run)) c

-- whatever a crash leaves of a disk is the journal that a read gives
abbrev pub IsSure : DiskHistory → Type 0
IsSure h = LeavesNow (IsJournal (payloads_of h.now.bytes)) h.now
