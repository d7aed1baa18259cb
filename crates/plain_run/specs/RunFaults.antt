-- Faults of a run.
use Rattle.load_core.specs.declared.begin_faults.BeginFault.{BeginFault}
use Rattle.load_core.specs.declared.begin_faults.BeginFault.TheVariants as begins
use Rattle.driving.specs.declared.drive_faults.DriveFault.{DriveFault}
use Rattle.driving.specs.declared.drive_faults.DriveFault.TheVariants as drives
use Rattle.plain_run.specs.declared.session_faults.SessionFault.{SessionFault}
use Rattle.plain_run.specs.declared.session_faults.SessionFault.TheVariants as sessions
use Rattle.plain_run.specs.declared.run_faults.RunFault.{RunFault}
use Rattle.plain_run.specs.declared.run_faults.RunFault.TheVariants as runs

-- what it is for a session that a command can't be begun
abbrev pub begin_fault : BeginFault → SessionFault
begin_fault begins.Memory = sessions.Memory
begin_fault _ = sessions.Damaged

-- what it is for a session that a command has no answer
abbrev pub drive_fault : DriveFault → SessionFault
drive_fault drives.Memory = sessions.Memory
drive_fault drives.Store = sessions.Store
drive_fault drives.Damaged = sessions.Damaged
drive_fault drives.Spent = sessions.Spent

-- what a fault of a session makes of a run
abbrev pub fault_of : SessionFault → RunFault
fault_of sessions.Memory = runs.Memory
fault_of sessions.Store = runs.Store
fault_of sessions.Damaged = runs.Damaged
fault_of sessions.MembersFull = runs.MembersFull
fault_of sessions.Spent = runs.Spent
