-- What a disk in memory tells.
use Rattle.std.specs.Prelude.{ℕ, List, [], ◌∷◌, length, take, Option, Some, None, if◌then◌else◌}
use Rattle.journal_core.specs.declared.disk_calls.DiskCall.{DiskCall}
use Rattle.journal_core.specs.declared.disk_calls.DiskCall.TheVariants.{Look, Write, Cut, Sync}
use Rattle.journal_core.specs.Disks.{DiskState, DiskHistory, fresh_disk, with_state}
use Rattle.journal_core.specs.Calls.{over, write_span, cut_span}

-- a disk in memory after a call: one that failed changed nothing, and counts as made
abbrev pub after_disk_call : DiskState → DiskCall → DiskState
after_disk_call s Look = s
after_disk_call s (Write at bytes done) =
    record {
      bytes = if done then over at bytes s.bytes else s.bytes;
      settled = s.settled;
      written = write_span at (length bytes) ∷ s.written;
    }
after_disk_call s (Cut len done) =
    record { bytes = if done then take len s.bytes else s.bytes; settled = s.settled; written = cut_span len s.bytes ∷ s.written }
after_disk_call s (Sync done) = if done then record { bytes = s.bytes; settled = s.bytes; written = [] } else s

-- a disk after calls
abbrev pub after_disk_calls : DiskHistory → List DiskCall → DiskHistory
after_disk_calls h [] = h
after_disk_calls h (c ∷ cs) = after_disk_calls (with_state h (after_disk_call h.now c)) cs

-- the bytes that it began with
abbrev pub bytes_or_none : Option (List ℕ) → List ℕ
bytes_or_none None = []
bytes_or_none (Some bytes) = bytes

-- the disk with these calls since its start
abbrev pub disk_after : Option (List ℕ) → List DiskCall → DiskHistory
disk_after start calls = after_disk_calls (fresh_disk (bytes_or_none start)) calls

-- what a read gives: what it began with, until that is changed
abbrev pub bytes_now : Option (List ℕ) → Option (List ℕ) → List ℕ
bytes_now start None = bytes_or_none start
bytes_now start (Some bytes) = bytes
