-- A client's open, driven to its end.
use Rattle.std.proofs.Common.{◌≡◌, ℕ, Option, Result, Ok, Err, List, sym, subst}
use Rattle.update_core.specs.declared.updates.Update.{Update}
use Rattle.store_core.specs.declared.shards.ShardId.{ShardId}
use Rattle.store_core.specs.declared.entries.Entry.{Entry}
use Rattle.store_core.specs.Stores.{Stored}
use Rattle.store_core.specs.Histories.{History}
use Rattle.update_core.specs.Limits.{most}
use Rattle.machine_core.specs.Machines.{Words}
use Rattle.driving.specs.declared.drive_faults.DriveFault.{DriveFault}
use Rattle.driving.specs.declared.drive_faults.DriveFault.TheVariants as drives
use Rattle.driving.specs.Drives.{Answered, Drove, Scanned}
use Rattle.driving.specs.Goings.{Goes}
use Rattle.driving.proofs.GoingLaws.{going_so}
use Rattle.step_run.specs.declared.entered.Entered.{Entered}
use Rattle.step_run.specs.declared.step_faults.StepFault.{StepFault}
use Rattle.step_run.specs.Faults.{FailedBy, drive_fault}
use Rattle.step_run.specs.Makes.{MakesTo}

module _ {M A : Type 0} (W : Words M A) (client : ℕ) (shard : ShardId) (k : W.Kept) (own : W.shard k ≡ shard) (a d : Option History) where
  there : (fault : DriveFault) → Goes (W.shard k) a d (Drove W client k (Err fault)) →
      Goes shard a d (λ list start es now. FailedBy shard (drive_fault fault) start es now)
  there drives.Memory went = subst (λ (s : ShardId). Goes s a d (Drove W client k (Err drives.Memory))) own went
  there drives.Store went = subst (λ (s : ShardId). Goes s a d (Drove W client k (Err drives.Store))) own went
  there drives.Damaged went = subst (λ (s : ShardId). Goes s a d (Drove W client k (Err drives.Damaged))) own went
  there drives.Spent went =
      subst (λ (s : ShardId). Goes s a d (λ list start es now. Scanned s (λ n t. n ≡ most) start es now)) own went

  -- it has no answer
  pub open_fails : (fault : DriveFault) (e : StepFault) → e ≡ drive_fault fault → Goes (W.shard k) a d (Drove W client k (Err fault)) →
      Goes shard a d (λ list start es now. FailedBy shard e start es now)
  open_fails fault e is went =
      subst (λ (f : StepFault). Goes shard a d (λ list start es now. FailedBy shard f start es now)) (sym is) (there fault went)

  -- it has one
  pub open_answers : (answer : A) (how : List Update → Stored → List Entry → List Entry → Type 0) →
      ((list : List Update) (start : Stored) (es now : List Entry) → Answered W client k answer list start es now → how list start es now) →
      Goes (W.shard k) a d (Drove W client k (Ok answer)) → Goes shard a d how
  open_answers answer how so went =
      going_so shard a d (Answered W client k answer) how (subst (λ (s : ShardId). Goes s a d (Drove W client k (Ok answer))) own went)
      (λ list start es now bt x. so list start es now x)

-- what has become of a client that was to be made, in other words
pub makes_as : (shard : ShardId) (a d : Option History) (first how : Entered → List Update → Stored → List Entry → List Entry → Type 0) →
    ((e : Entered) (list : List Update) (start : Stored) (es now : List Entry) → first e list start es now → how e list start es now) →
    (r : Result Entered StepFault) → Goes shard a d (MakesTo shard first r) → Goes shard a d (MakesTo shard how r)
makes_as shard a d first how so (Ok e) went =
    going_so shard a d (MakesTo shard first (Ok e)) (MakesTo shard how (Ok e)) went (λ list start es now bt h. so e list start es now h)
makes_as shard a d first how so (Err fault) went = went
