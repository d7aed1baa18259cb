-- Why a disk isn't opened, by what it holds and by its count of faults.
use Rattle.std.specs.Prelude.{⊤, ℕ, Option}
use Rattle.std.specs.Option.{ForSome}
use Rattle.causes.specs.Causes.{Rose}
use Rattle.journal_core.specs.Disks.{DiskHistory}
use Rattle.store_core.specs.Contents.{stored_of}
use Rattle.store_file.specs.declared.found.Found.{Found}
use Rattle.store_file.specs.declared.open_faults.OpenFault.{OpenFault}
use Rattle.store_file.specs.declared.open_faults.OpenFault.TheVariants as faults
use Rattle.store_file.specs.Replays.{Stands, KeepsWhereTold}
use Rattle.store_file.specs.Opening.{IsNoStore, IsDamagedAt}

-- the disk failed, or its bytes, where they are told, are no store or are damaged at this place
abbrev pub IsCauseOf : Option DiskHistory → ℕ → ℕ → OpenFault → Type 0
IsCauseOf o before now faults.DiskFault = Rose before now
IsCauseOf o before now faults.NotAStore = ForSome o (λ h. IsNoStore h.now.bytes)
IsCauseOf o before now (faults.Damaged at) = ForSome o (λ h. IsDamagedAt at h.now.bytes)
IsCauseOf o before now faults.Memory = ⊤

-- The bytes that were there stand for the store that was found, and the disk keeps it.
pub record IsOpened (old new : Option DiskHistory) (f : Found) : Type 0 where
  pub stands : ForSome old (λ h. Stands (stored_of f.contents) h.now.bytes)
  pub keeps : KeepsWhereTold (stored_of f.contents) f.end new

-- the fault isn't of the bytes: the disk failed, or memory was refused
abbrev pub IsFromOutside : OpenFault → Type 0
IsFromOutside faults.DiskFault = ⊤
IsFromOutside faults.NotAStore = ⊥
IsFromOutside (faults.Damaged at) = ⊥
IsFromOutside faults.Memory = ⊤
