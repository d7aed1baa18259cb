-- What a store in a file tells.
use Rattle.std.specs.Prelude.{◌≡◌, ℕ, ◌+◌, Bool, Option, Some}
use Rattle.journal_core.specs.declared.disks.Disk.{Ghosts}
use Rattle.journal_core.specs.Disks.{DiskHistory}
use Rattle.store_core.specs.Contents.{stored_of}
use Rattle.store_core.specs.Stores.{Stored}
use Rattle.store_core.specs.declared.calls.Call.{Call}
use Rattle.store_core.specs.declared.outcomes.Outcome.{Outcome}
use Rattle.store_core.specs.Histories.{History, store_after, with_entry, entry_of}
use Rattle.store_file.specs.declared.file_stores.FileStore.{FileStore}

-- the call with this outcome is one more entry
abbrev pub HasEntry : ℕ → Call → Outcome → History → History → Type 0
HasEntry client call outcome old new = new ≡ with_entry old (entry_of client call outcome)

module _ {D : Type 0} {G : Ghosts D} where
  -- the store that it was opened with, and the entries since then
  abbrev pub history_of : FileStore D G → History
  history_of s = record { start = stored_of s.start.value; trail = s.trail.items }

  -- it tells them always
  abbrev pub told : FileStore D G → Option History
  told s = Some (history_of s)

  -- the store as its history has it
  abbrev pub store_now : FileStore D G → Stored
  store_now s = store_after (history_of s)

  -- its disk, where that is told
  abbrev pub disk_of : FileStore D G → Option DiskHistory
  disk_of s = G.history s.journal.disk

  -- its disk as it was when the store was opened
  abbrev pub opened_disk : FileStore D G → Option DiskHistory
  opened_disk s = G.history s.opened.value

  -- how often the disk has failed
  abbrev pub disk_faults : FileStore D G → ℕ
  disk_faults s = G.faults s.journal.disk

  -- how often a call has failed: by the disk, or since the store is shut
  abbrev pub file_faults : FileStore D G → ℕ
  file_faults s = G.faults s.journal.disk + s.refused

  -- whether the disk has failed
  abbrev pub is_shut : FileStore D G → Bool
  is_shut s = s.shut

  -- the place of its last gate
  abbrev pub end_of : FileStore D G → ℕ
  end_of s = s.journal.end
