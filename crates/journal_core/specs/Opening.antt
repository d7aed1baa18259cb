-- What the beginning, the reading and the repair of a journal leave of a disk.
use Rattle.std.specs.Prelude.{⊤, ◌≡◌, ℕ, List, [], ◌∷◌, ◌++◌, length, Option, Some, None, Result, Ok, Err}
use Rattle.journal_core.specs.declared.load_faults.LoadFault.{LoadFault}
use Rattle.journal_core.specs.declared.load_faults.LoadFault.TheVariants.{Memory, Broken}
use Rattle.causes.specs.Causes.{Rose}
use Rattle.journal_core.specs.Disks.{DiskState, DiskHistory, settled_disk}
use Rattle.journal_core.specs.Records.{records, Rests}

-- where the disk is told, it is so before and after; where it isn't, it stays untold
abbrev pub Turns : (DiskState → DiskState → Type 0) → Option DiskHistory → Option DiskHistory → Type 0
Turns how None new = new ≡ None
Turns how (Some h) new = (k : DiskHistory) × (new ≡ Some k) × how h.now k.now

-- where the disk is told, it has no bytes
abbrev pub IsEmpty : Option DiskHistory → Type 0
IsEmpty None = ⊤
IsEmpty (Some h) = h.now.bytes ≡ []

-- a journal with no record is there, at rest
abbrev pub IsBegun : DiskState → DiskState → Type 0
IsBegun old new = Rests new 8 []

-- the same bytes, and all of them are sure
abbrev pub IsSettled : DiskState → DiskState → Type 0
IsSettled old new = new ≡ settled_disk old.bytes

-- where the disk is told, these are all of its bytes
abbrev pub HasAll : Option DiskHistory → List ℕ → Type 0
HasAll None bytes = ⊤
HasAll (Some h) bytes = bytes ≡ h.now.bytes

-- the gate at a place is closed, and all is sure
abbrev pub IsShut : ℕ → ℕ → DiskState → DiskState → Type 0
IsShut end gate old new = (front rest : List ℕ) → old ≡ settled_disk (front ++ gate ∷ rest) → end ≡ length front
    → new ≡ settled_disk (front ++ 0 ∷ rest)

-- the journal that ends with the closed gate at a place is at rest
abbrev pub IsTrimmed : ℕ → ℕ → DiskState → DiskState → Type 0
IsTrimmed end len old new =
    (payloads : List (List ℕ)) (rest : List ℕ) → old ≡ settled_disk (records payloads ++ 0 ∷ rest) → end ≡ length (records payloads)
    → len ≡ length old.bytes → Rests new end payloads

-- the journal whose last gate stands at a place is at rest
abbrev pub IsRepaired : ℕ → ℕ → ℕ → DiskState → DiskState → Type 0
IsRepaired end gate len old new =
    (payloads : List (List ℕ)) (rest : List ℕ) → old ≡ settled_disk (records payloads ++ gate ∷ rest) → end ≡ length (records payloads)
    → len ≡ length old.bytes → Rests new end payloads

-- the disk fails only where its count rose
abbrev pub FailsFor : {A : Type 0} → ℕ → ℕ → Result A LoadFault → Type 0
FailsFor before now (Ok x) = ⊤
FailsFor before now (Err Memory) = ⊤
FailsFor before now (Err Broken) = Rose before now
