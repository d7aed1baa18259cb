-- What is left of a disk.
use Rattle.std.specs.Prelude.{⊤, ◌≡◌, ℕ, List, [], ◌∷◌, Option, Some}
use Rattle.std.specs.Option.{ForSome}
use Rattle.update_core.specs.declared.updates.Update.{Update}
use Rattle.store_core.specs.declared.shards.ShardId.{ShardId}
use Rattle.store_core.specs.Stores.{Stored, empty_store}
use Rattle.store_core.specs.Histories.{History}
use Rattle.journal_core.specs.declared.disks.Disk.{Ghosts}
use Rattle.history_core.specs.Discipline.{Lawful}
use Rattle.history_core.specs.Stands.{StandsFor}
use Rattle.journal_core.specs.Disks.{DiskHistory}
use Rattle.journal_core.specs.Crashes.{LeavesWhereTold}
use Rattle.store_file.specs.declared.file_stores.FileStore.{FileStore}
use Rattle.store_file.specs.declared.open_faults.OpenFault.{OpenFault}
use Rattle.store_file.specs.FileStores.{history_of}
use Rattle.store_file.specs.Replays.{Stands}
use Rattle.store_file.specs.Causes.{IsCauseOf}
use Rattle.crash_laws.specs.Accepted.{KeepsAccepted}
use Rattle.persist_app.specs.declared.disk_lefts.DiskLeft.{DiskLeft}
use Rattle.persist_app.specs.declared.disk_lefts.DiskLeft.TheVariants as lefts
use Rattle.persist_app.specs.TopEnds.{IsTopStatus}
use Rattle.persist_app.specs.DiskLines.{Refuses}

-- no bytes begin an empty store, and others the store that they stand for
abbrev pub Begins : List ℕ → Stored → Type 0
Begins [] s = s ≡ empty_store
Begins (b ∷ bs) s = Stands s (b ∷ bs)

-- the same where the disk is told
abbrev pub BeginsWhereTold : Option DiskHistory → Stored → Type 0
BeginsWhereTold told s = ForSome told (λ h. Begins h.now.bytes s)

-- where the disk is told, its bytes stand for the store
abbrev pub StandsWhereTold : Option DiskHistory → Stored → Type 0
StandsWhereTold told s = ForSome told (λ h. Stands s h.now.bytes)

-- Over a start that stands for a list, whatever a crash left of the disk at any moment from one to another stands for a store that
-- stands for what the first calls of a lawful history make accepted.
abbrev pub KeepsAcceptedFrom : Option DiskHistory → History → Option DiskHistory → Type 0
KeepsAcceptedFrom opened h now =
    (shard : ShardId) (list : List Update) → StandsFor h.start shard list → Lawful h →
    LeavesWhereTold (KeepsAccepted shard list h) opened now

module _ {D : Type 0} {G : Ghosts D} where
  -- the history of a store when it was opened: its start, and no call
  abbrev pub opened : FileStore D G → Option History
  opened store = Some (record { start = (history_of store).start; trail = [] })

  -- where a store is left, P holds of it
  abbrev pub OnStore : DiskLeft D G → (FileStore D G → Type 0) → Type 0
  OnStore (lefts.Disk left) P = ⊤
  OnStore (lefts.Store store) P = P store

  -- No store was opened, for a cause of the disk, and the last line and the status say so; or the status is one of a command over a store.
  abbrev pub IsLeft : D → DiskLeft D G → ℕ → Option (List ℕ) → Option (List ℕ) → ℕ → ℕ → Type 0
  IsLeft disk (lefts.Disk left) status taken taken_now puts puts_now =
      (why : OpenFault) × IsCauseOf (G.history disk) (G.faults disk) (G.faults left) why × Refuses why status taken taken_now puts puts_now
  IsLeft disk (lefts.Store store) status taken taken_now puts puts_now = IsTopStatus status

  -- where no store was opened, the source is as it was
  abbrev pub IsUnread : {S : Type 0} → DiskLeft D G → S → S → Type 0
  IsUnread (lefts.Disk left) old new = new ≡ old
  IsUnread (lefts.Store store) old new = ⊤
