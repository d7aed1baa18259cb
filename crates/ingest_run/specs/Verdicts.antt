-- What the ends of a crew's workers make of an ingest.
use Rattle.std.specs.Prelude.{ℕ, zero, suc, Bool, true, false, Option, Result, Ok, Err, List, [], ◌∷◌, if◌then◌else◌}
use Rattle.crew.specs.declared.ends.WorkerEnd.{WorkerEnd}
use Rattle.crew.specs.declared.ends.WorkerEnd.TheVariants as ends
use Rattle.ingest_run.specs.declared.faults.IngestFault.{IngestFault}
use Rattle.ingest_run.specs.declared.faults.IngestFault.TheVariants as faults

-- memory was refused to the worker
abbrev pub is_memory_end : WorkerEnd → Bool
is_memory_end ends.Memory = true
is_memory_end _ = false

-- it found the shard damaged, or what no collection that suits the feed tells
abbrev pub has_found_damage : WorkerEnd → Bool
has_found_damage (ends.Damaged damage) = true
has_found_damage (ends.Misfit upper) = true
has_found_damage (ends.Heavy weight) = true
has_found_damage _ = false

-- no number was left for it
abbrev pub is_spent_end : WorkerEnd → Bool
is_spent_end ends.Spent = true
is_spent_end _ = false

-- it found 256 members
abbrev pub is_full_end : WorkerEnd → Bool
is_full_end (ends.MembersFull version) = true
is_full_end _ = false

-- it was stopped, or ended by a call that failed
abbrev pub is_halted : WorkerEnd → Bool
is_halted ends.Stopped = true
is_halted ends.Faulted = true
is_halted _ = false

-- one of them did so
abbrev pub any_end : (WorkerEnd → Bool) → List WorkerEnd → Bool
any_end p [] = false
any_end p (e ∷ more) = if p e then true else any_end p more

-- each of the first so many was halted
abbrev pub are_halted : ℕ → List WorkerEnd → Bool
are_halted zero es = true
are_halted (suc n) [] = true
are_halted (suc n) (e ∷ more) = if is_halted e then are_halted n more else false

-- the first cause that holds: want of memory, damage, a last version, full members
abbrev pub crew_verdict : List WorkerEnd → Result Unit IngestFault
crew_verdict es =
    if any_end is_memory_end es then Err faults.Memory
    else if any_end has_found_damage es then Err faults.Damaged
    else if any_end is_spent_end es then Err faults.Spent
    else if any_end is_full_end es then Err faults.MembersFull
    else Ok tt

-- what it is where the upper isn't the feed's end
abbrev pub short_of_end : List WorkerEnd → ℕ → Option ℕ → IngestFault
short_of_end es writers upper = if are_halted writers es then faults.Upper upper else faults.Damaged
