-- When each writer of a crew was halted, by the entries that have come to a store.
use Rattle.std.specs.Prelude.{⊤, ◌≡◌, ◌≢◌, ◌⊎◌, ℕ, ◌+◌, ◌<◌, true, Option, Some, None, Result, Err, List, [], ◌∷◌, ◌++◌, length}
use Rattle.turnstile.specs.Rule.{entries_by}
use Rattle.store_core.specs.declared.entries.Entry.{Entry}
use Rattle.store_core.specs.declared.outcomes.Outcome.TheVariants.{Took}
use Rattle.store_core.specs.Histories.{History}
use Rattle.store_core.specs.Ports.{with_entries}
use Rattle.shared_store.specs.Trails.{entry_client}
use Rattle.stops_core.specs.declared.stops.Stop.{Stop}
use Rattle.stops_core.specs.Stops.{stop_of}
use Rattle.crew.specs.declared.ends.WorkerEnd.{WorkerEnd}
use Rattle.driving.specs.Goings.{GrowsBy}
use Rattle.ingest_run.specs.declared.faults.IngestFault.{IngestFault}
use Rattle.ingest_run.specs.declared.faults.IngestFault.TheVariants as faults
use Rattle.ingest_run.specs.Verdicts.{are_halted}

-- Of a client's own entries, oldest first: they are as many as its stop number says, or the last of them failed.
abbrev pub HaltsAt : Option ℕ → List Entry → Type 0
HaltsAt stop own =
    ((k : ℕ) × (stop ≡ Some k) × (length own ≡ k)) ⊎
    ((before : List Entry) × (e : Entry) × (own ≡ before ++ e ∷ []) × (e.outcome ≢ Took))

-- Each of so many writers, which are the clients from 1 on, was halted by what has come to a history that was told.
abbrev pub WritersHalted : ℕ → List Stop → Option History → Option History → Type 0
WritersHalted writers stops None now = ⊤
WritersHalted writers stops (Some before) now =
    (gain : List Entry) × (now ≡ Some (with_entries before gain)) ×
    ((writer : ℕ) → writer < writers → HaltsAt (stop_of stops writer) (entries_by entry_client (writer + 1) gain))

-- An upper is told only where that is so.
abbrev pub HaltsShort : {V : Type 0} → ℕ → List Stop → Result V IngestFault → Option History → Option History → Type 0
HaltsShort writers stops reply before now = (upper : Option ℕ) → reply ≡ Err (faults.Upper upper) → WritersHalted writers stops before now

-- By the ends of a crew: an upper is told only where each writer's end is that of one that was halted, and this client alone has called
-- the store since.
abbrev pub EndsShort : {V : Type 0} → ℕ → ℕ → List WorkerEnd → Result V IngestFault → Option History → Option History → Type 0
EndsShort client writers ends reply before now =
    (upper : Option ℕ) → reply ≡ Err (faults.Upper upper) → (are_halted writers ends ≡ true) × GrowsBy client before now

-- no upper is told
abbrev pub NoUpper : {V : Type 0} → Result V IngestFault → Type 0
NoUpper reply = (upper : Option ℕ) → reply ≢ Err (faults.Upper upper)
