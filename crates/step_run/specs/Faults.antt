-- What has become of a schedule that isn't executed to its end. Entries go newest first.
use Rattle.std.specs.Prelude.{⊤, ◌≡◌, Result, Ok, Err, List}
use Rattle.store_core.specs.declared.shards.ShardId.{ShardId}
use Rattle.store_core.specs.declared.entries.Entry.{Entry}
use Rattle.store_core.specs.Stores.{Stored}
use Rattle.update_core.specs.Limits.{most}
use Rattle.driving.specs.declared.drive_faults.DriveFault.{DriveFault}
use Rattle.driving.specs.declared.drive_faults.DriveFault.TheVariants as drives
use Rattle.driving.specs.Drives.{Scanned}
use Rattle.step_run.specs.declared.step_faults.StepFault.{StepFault}
use Rattle.step_run.specs.declared.step_faults.StepFault.TheVariants as faults

-- what it is for a schedule that an opening has no answer
abbrev pub drive_fault : DriveFault → StepFault
drive_fault drives.Memory = faults.Memory
drive_fault drives.Store = faults.Store
drive_fault drives.Damaged = faults.Damaged
drive_fault drives.Spent = faults.Spent

-- Nothing is damaged; where no version is left, the last entry is a Scan that shows it.
abbrev pub FailedBy : ShardId → StepFault → Stored → List Entry → List Entry → Type 0
FailedBy shard faults.Damaged start es now = ⊥
FailedBy shard faults.Spent start es now = Scanned shard (λ n s. n ≡ most) start es now
FailedBy shard _ start es now = ⊤

-- only memory or the sink can have failed
abbrev pub FailsWriting : {A : Type 0} → Result A StepFault → Type 0
FailsWriting (Ok a) = ⊤
FailsWriting (Err faults.Memory) = ⊤
FailsWriting (Err faults.Sink) = ⊤
FailsWriting (Err fault) = ⊥
