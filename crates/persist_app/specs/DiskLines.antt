-- The last lines of a command whose disk isn't opened, and their statuses.
use Rattle.std.specs.Prelude.{◌≡◌, ◌⊎◌, ℕ, List, [], ◌∷◌, ◌++◌, codes, Option}
use Rattle.std.specs.Fmt.{decimal}
use Rattle.store_file.specs.declared.open_faults.OpenFault.{OpenFault}
use Rattle.store_file.specs.declared.open_faults.OpenFault.TheVariants as faults
use Rattle.persist_app.specs.Endings.{EndsWith, memory_text}
use Rattle.persist_app.specs.TopEnds.{IsTopStatus}

abbrev pub not_a_store_text : List ℕ
not_a_store_text = codes "not a store\n"

abbrev pub disk_failed_text : List ℕ
disk_failed_text = codes "disk failed\n"

abbrev pub damaged_at_text : ℕ → List ℕ
damaged_at_text at = codes "damaged at " ++ (decimal at ++ 10 ∷ [])

-- those of a command over a store, and those of a disk that isn't opened
abbrev pub IsDiskStatus : ℕ → Type 0
IsDiskStatus status = IsTopStatus status ⊎ ((status ≡ 13) ⊎ ((status ≡ 14) ⊎ (status ≡ 15)))

-- the last line of a disk that isn't opened, and its status; want of memory may stand for a line that names a place
abbrev pub Refuses : OpenFault → ℕ → Option (List ℕ) → Option (List ℕ) → ℕ → ℕ → Type 0
Refuses faults.NotAStore status taken taken_now puts puts_now = EndsWith status 13 not_a_store_text taken taken_now puts puts_now
Refuses faults.DiskFault status taken taken_now puts puts_now = EndsWith status 14 disk_failed_text taken taken_now puts puts_now
Refuses (faults.Damaged at) status taken taken_now puts puts_now =
    EndsWith status 15 (damaged_at_text at) taken taken_now puts puts_now ⊎ EndsWith status 8 memory_text taken taken_now puts puts_now
Refuses faults.Memory status taken taken_now puts puts_now = EndsWith status 8 memory_text taken taken_now puts puts_now
