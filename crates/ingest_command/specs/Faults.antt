-- How the command ends by a fault of an ingest.
use Rattle.plain_run.specs.declared.endings.Ending.{Ending}
use Rattle.plain_run.specs.declared.endings.Ending.TheVariants as endings
use Rattle.plain_run.specs.declared.session_faults.SessionFault.{SessionFault}
use Rattle.plain_run.specs.declared.session_faults.SessionFault.TheVariants as sessions
use Rattle.ingest_run.specs.declared.faults.IngestFault.{IngestFault}
use Rattle.ingest_run.specs.declared.faults.IngestFault.TheVariants as faults
use Rattle.ingest_command.specs.declared.endings.IngestEnding.{IngestEnding}
use Rattle.ingest_command.specs.declared.endings.IngestEnding.TheVariants as ends

-- by a command that has no answer, as a run does
abbrev pub run_ending : SessionFault → Ending
run_ending sessions.Memory = endings.Memory
run_ending sessions.Store = endings.StoreFailed
run_ending sessions.Damaged = endings.Damaged
run_ending sessions.MembersFull = endings.MembersFull
run_ending sessions.Spent = endings.Spent

abbrev pub ending_of : IngestFault → IngestEnding
ending_of (faults.Outside fault) = ends.AsRun (run_ending fault)
ending_of faults.Memory = ends.AsRun endings.Memory
ending_of faults.Damaged = ends.AsRun endings.Damaged
ending_of faults.Spent = ends.AsRun endings.Spent
ending_of faults.MembersFull = ends.AsRun endings.MembersFull
ending_of (faults.Upper upper) = ends.Upper upper
ending_of (faults.Misfit upper) = ends.Misfit upper
ending_of (faults.Heavy weight) = ends.Heavy weight
