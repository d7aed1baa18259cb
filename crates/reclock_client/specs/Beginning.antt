-- Why an operator's command isn't begun, and what begins otherwise.
use Rattle.std.specs.Prelude.{◌≡◌, ◌⊎◌, Bool, true, false, if◌then◌else◌, nat_lt, Option, Some, None, Result, Ok, Err, List, length}
use Rattle.update_core.specs.Limits.{max_rows, max_weight}
use Rattle.load_core.specs.declared.begin_faults.BeginFault.{BeginFault}
use Rattle.load_core.specs.declared.begin_faults.BeginFault.TheVariants as faults
use Rattle.remap_core.specs.declared.source_rows.SourceRow.{SourceRow}
use Rattle.remap_core.specs.Reclocking.{weight_of_rows}
use Rattle.reclock_client.specs.declared.errands.Errand.{Errand}
use Rattle.reclock_client.specs.declared.operators.Operator.{Operator}
use Rattle.reclock_client.specs.declared.steps.Step.{Step}
use Rattle.reclock_client.specs.Commands.{reading_step}

-- a command is open; or a member hasn't joined, or is gone
abbrev pub fault_by : Option Errand → Bool → Option BeginFault
fault_by (Some errand) joined = Some faults.Open
fault_by None true = None
fault_by None false = Some faults.Gone

abbrev pub fault : Operator → Option BeginFault
fault o = fault_by o.course.errand o.course.joined

abbrev pub or_fault : Option BeginFault → Option BeginFault → Option BeginFault
or_fault (Some fault) next = Some fault
or_fault None next = next

-- the reasons that are a publish's own
abbrev pub rows_fault : List SourceRow → Option BeginFault
rows_fault rows =
    if nat_lt max_rows (length rows) then Some (faults.TooMany (length rows))
    else if nat_lt max_weight (weight_of_rows rows) then Some faults.TooHeavy
    else None

abbrev pub publish_fault : Operator → List SourceRow → Option BeginFault
publish_fault o rows = or_fault (fault o) (rows_fault rows)

-- a command with its first step
abbrev pub begun : Operator → Errand → Step → Operator
begun o errand step = record o { course = record o.course { errand = Some errand; step = step }; calls = 0 }

-- a command that reads the remap shard first
abbrev pub begun_sync : Operator → Errand → Operator
begun_sync o errand = begun o errand (reading_step o.course)

-- a command is begun exactly where nothing stands against it; else that is told, or memory was refused, and all is as it was
abbrev pub Begins : Option BeginFault → Operator → Operator → Operator → Result Unit BeginFault → Type 0
Begins fault old new begun (Ok done) = (fault ≡ None) × (new ≡ begun)
Begins fault old new begun (Err met) = ((fault ≡ Some met) ⊎ ((fault ≡ None) × (met ≡ faults.Memory))) × (new ≡ old)
