-- What a run's compactor comes to, over a store that nobody else calls. Entries go newest first.
use Rattle.std.specs.Prelude.{◌≡◌, ℕ, ◌+◌, Bool, true, false, Option, None, IsSome, unwrap_or, Result, Ok, Err, List}
use Rattle.update_core.specs.declared.updates.Update.{Update}
use Rattle.store_core.specs.declared.shards.ShardId.{ShardId}
use Rattle.store_core.specs.declared.entries.Entry.{Entry}
use Rattle.store_core.specs.Stores.{Stored}
use Rattle.store_core.specs.Histories.{History}
use Rattle.store_core.specs.Newest.{replay_back}
use Rattle.history_core.specs.declared.merge_answers.MergeAnswer.{MergeAnswer}
use Rattle.history_core.specs.declared.merge_answers.MergeAnswer.TheVariants as merges
use Rattle.merge_client.specs.declared.compactors.Compactor.{Compactor}
use Rattle.merge_client.specs.Following as following
use Rattle.merge_client.specs.Merging as merging
use Rattle.plain_run.specs.declared.session_faults.SessionFault.{SessionFault}
use Rattle.plain_run.specs.declared.session_faults.SessionFault.TheVariants as faults
use Rattle.plain_run.specs.Drives.{Failed}
use Rattle.plain_run.specs.PlainRuns.{View}
use Rattle.plain_run.specs.Sessions.{ViewAt}
use Rattle.plain_run.specs.Settling.{IsSettledIn, KeeperAt, StaysSettled}

-- a compactor that has joined, between commands
pub record CompactorReady (here : ShardId) (client : ℕ) (front : Option History) (c : Compactor) : Type 0 where
  pub shard : merging.shard_of c ≡ here
  pub sound : merging.IsSound c
  pub follows : following.FollowsWhere client front c
  pub free : c.asked ≡ None
  pub member : IsSome c.member

-- the number of a compactor's member
abbrev pub keeper_of : Compactor → ℕ
keeper_of c = unwrap_or c.member 0

-- ---- answers

-- whether a compactor was let in
abbrev pub compactor_let_in : MergeAnswer → Result Unit SessionFault
compactor_let_in (merges.Opened member version) = Ok tt
compactor_let_in (merges.MembersFull version) = Err faults.MembersFull
compactor_let_in _ = Err faults.Damaged

-- whether a merge was made, or none is due
abbrev pub merge_made : MergeAnswer → Result Bool SessionFault
merge_made (merges.Merged version) = Ok true
merge_made (merges.NothingDue version) = Ok false
merge_made (merges.Superseded version) = Err faults.Memory
merge_made _ = Err faults.Damaged

-- ---- what has become of the shard

-- the compactor has joined: what the run sees stays, and its keeper stands
abbrev pub OpensCompactor : ShardId → Result Unit SessionFault → Compactor → List Update → Stored → List Entry → List Entry → Type 0
OpensCompactor shard (Ok done) c list start es now =
    (reader : ℕ) (view : View) → ViewAt shard list start es reader view →
    ViewAt shard list start now reader view × KeeperAt shard start now (keeper_of c) 1
OpensCompactor shard (Err fault) c list start es now = Failed shard fault start es now

-- the same where there is a compactor
abbrev pub MakesCompactor : ShardId → Result Compactor SessionFault → List Update → Stored → List Entry → List Entry → Type 0
MakesCompactor shard (Ok c) list start es now = OpensCompactor shard (Ok tt) c list start es now
MakesCompactor shard (Err fault) list start es now = Failed shard fault start es now

-- a merge was made, and the version's number has risen; or none is due
abbrev pub MergedOn : ShardId → ℕ → ℕ → Bool → Stored → List Entry → Type 0
MergedOn shard member least true start now = KeeperAt shard start now member (least + 1)
MergedOn shard member least false start now = KeeperAt shard start now member least × IsSettledIn (replay_back start now) shard

-- a merge: what the run sees stays
abbrev pub MergesNext : ShardId → ℕ → Result Bool SessionFault → List Update → Stored → List Entry → List Entry → Type 0
MergesNext shard member (Ok made) list start es now =
    (reader least : ℕ) (view : View) → ViewAt shard list start es reader view → KeeperAt shard start es member least →
    ViewAt shard list start now reader view × MergedOn shard member least made start now
MergesNext shard member (Err faults.Damaged) list start es now =
    (reader least : ℕ) (view : View) → ViewAt shard list start es reader view → KeeperAt shard start es member least → ⊥
MergesNext shard member (Err fault) list start es now = Failed shard fault start es now

-- merges until none is due
abbrev pub MergesAll : ShardId → ℕ → Result Unit SessionFault → List Update → Stored → List Entry → List Entry → Type 0
MergesAll shard member (Ok done) list start es now =
    (reader : ℕ) (view : View) → ViewAt shard list start es reader view → KeeperAt shard start es member 1 →
    ViewAt shard list start now reader view × KeeperAt shard start now member 1 × IsSettledIn (replay_back start now) shard
MergesAll shard member (Err faults.Damaged) list start es now =
    (reader : ℕ) (view : View) → ViewAt shard list start es reader view → KeeperAt shard start es member 1 → ⊥
MergesAll shard member (Err fault) list start es now = Failed shard fault start es now

-- so many merges were made
abbrev pub MergesMade : ShardId → ℕ → ℕ → List Update → Stored → List Entry → List Entry → Type 0
MergesMade shard member count list start es now =
    (reader : ℕ) (view : View) → ViewAt shard list start es reader view → KeeperAt shard start es member 1 →
    ViewAt shard list start now reader view × KeeperAt shard start now member (count + 1)

-- the compactor has left: what the run sees stays, and so do settled batches
abbrev pub LeavesKeeper : ShardId → ℕ → Result Unit SessionFault → List Update → Stored → List Entry → List Entry → Type 0
LeavesKeeper shard member (Ok done) list start es now =
    (reader : ℕ) (view : View) → ViewAt shard list start es reader view → KeeperAt shard start es member 1 →
    ViewAt shard list start now reader view × StaysSettled shard (replay_back start es) (replay_back start now)
LeavesKeeper shard member (Err fault) list start es now = Failed shard fault start es now
