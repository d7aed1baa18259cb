-- What a store in memory tells.
use Rattle.std.specs.Prelude.{ℕ, Option, Some, List}
use Rattle.store_core.specs.declared.faults.FaultAt.{FaultAt}
use Rattle.store_core.specs.declared.mem_stores.MemStore.{MemStore}
use Rattle.store_core.specs.Contents.{stored_of}
use Rattle.store_core.specs.Histories.{History}

-- its start and the entries since then
abbrev pub history_of : MemStore → History
history_of m = record { start = stored_of m.start.value; trail = m.trail.items }

-- a store in memory tells its history always
abbrev pub told : MemStore → Option History
told m = Some (history_of m)

-- the faults that it was given
abbrev pub listed_faults : MemStore → List FaultAt
listed_faults m = m.faults

-- how many of its calls failed
abbrev pub failed_calls : MemStore → ℕ
failed_calls m = m.failed
