-- A disk in memory tells always what it is.
use Rattle.std.specs.Prelude.{ℕ, Option, Some}
use Rattle.journal_core.specs.declared.mem_disks.MemDisk.{MemDisk}
use Rattle.journal_core.specs.declared.tallies.Tally.{Tally}
use Rattle.journal_core.specs.Disks.{DiskHistory}
use Rattle.journal_core.specs.MemDisks.{disk_after}

-- the disk after each of its calls
abbrev pub disk_of : MemDisk → DiskHistory
disk_of m = disk_after m.start m.calls.items

-- which is told always
abbrev pub told : MemDisk → Option DiskHistory
told m = Some (disk_of m)

-- how many of its calls failed
abbrev pub failed_calls : MemDisk → ℕ
failed_calls m = m.tally.failed

-- which of its calls fail, and how many did
abbrev pub tally_of : MemDisk → Tally
tally_of m = m.tally
