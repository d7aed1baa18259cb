-- What a crash leaves of a collection: a store that stands for the updates accepted by the first calls.
use Rattle.std.specs.Prelude.{◌≡◌, ◌⊎◌, ℕ, List, [], ◌∷◌, ◌++◌}
use Rattle.update_core.specs.declared.updates.Update.{Update}
use Rattle.store_core.specs.declared.shards.ShardId.{ShardId}
use Rattle.store_core.specs.declared.calls.Call.{Call}
use Rattle.store_core.specs.declared.outcomes.Outcome.{Outcome}
use Rattle.store_core.specs.declared.outcomes.Outcome.TheVariants.{Took, FailedTook, FailedLost}
use Rattle.store_core.specs.declared.entries.Entry.{Entry}
use Rattle.store_core.specs.Stores.{Stored, after_call}
use Rattle.store_core.specs.Histories.{History, store_after, replay, with_entry, entry_of}
use Rattle.history_core.specs.Discipline.{Lawful}
use Rattle.history_core.specs.Stands.{StandsFor, accepted_of}
use Rattle.history_core.specs.TakenAfterAll.{AllLost, ended_by}
use Rattle.store_file.specs.Replays.{Stands, StandsForEither}
use Rattle.store_file.specs.SinceOpening.{AllDone, StandsForFirst}

-- the history with these calls alone
abbrev pub only : History → List Entry → History
only h front = record { start = h.start; trail = front }

-- the call counts as one that took effect
abbrev pub taken : Entry → Entry
taken e = entry_of e.client e.call Took

-- the bytes stand for this store, and the store for this list under the shard
pub record StandsForList (shard : ShardId) (list : List Update) (store : Stored) (bytes : List ℕ) : Type 0 where
  pub opened : Stands store bytes
  pub stands : StandsFor store shard list

-- the same after the next call, where one comes
abbrev pub WithNext : ShardId → List Update → History → List Entry → List Entry → List ℕ → Type 0
WithNext shard list h front [] bytes = ⊥
WithNext shard list h front (e ∷ rest) bytes =
    StandsForList shard (accepted_of shard list (with_entry (only h front) (taken e))) (after_call (replay h.start front) e.call) bytes

-- The bytes stand for the store after the first calls of a history, each of which was done, and that store for what they make
-- accepted; or the same with the next call, which counts as one that took effect.
pub record KeepsAccepted (shard : ShardId) (list : List Update) (h : History) (bytes : List ℕ) : Type 0 where
  pub front : List Entry
  pub rest : List Entry
  pub trail : h.trail ≡ front ++ rest
  pub done : AllDone front
  pub kept : StandsForList shard (accepted_of shard list (only h front)) (replay h.start front) bytes ⊎ WithNext shard list h front rest bytes

-- what stands for the store after the first calls of a lawful history stands for what they make accepted
abbrev pub CrashKeepsAccepted : Type 0
CrashKeepsAccepted =
    (shard : ShardId) (list : List Update) (h : History) (bytes : List ℕ) → StandsFor h.start shard list → Lawful h →
    StandsForFirst h bytes → KeepsAccepted shard list h bytes

-- what stands for the store before an allowed call, or after it, stands for what was accepted before it, or for that with the call
abbrev pub CrashInACall : Type 0
CrashInACall =
    (shard : ShardId) (list : List Update) (h : History) (client : ℕ) (call : Call) (o : Outcome) (bytes : List ℕ) →
    StandsFor h.start shard list → Lawful (with_entry h (entry_of client call o)) →
    StandsForEither (store_after h) (after_call (store_after h) call) bytes →
    StandsForList shard (accepted_of shard list h) (store_after h) bytes ⊎
    StandsForList shard (accepted_of shard list (with_entry h (entry_of client call Took))) (after_call (store_after h) call) bytes

-- the same of a call in which the disk failed, and of calls after it, each of which failed
abbrev pub FaultInACall : Type 0
FaultInACall =
    (shard : ShardId) (list : List Update) (h : History) (client : ℕ) (call : Call) (lost : List Entry) (bytes : List ℕ) →
    StandsFor h.start shard list → AllLost lost → Lawful (ended_by h client call FailedLost lost) →
    StandsForEither (store_after h) (after_call (store_after h) call) bytes →
    StandsForList shard (accepted_of shard list (ended_by h client call FailedLost lost)) (store_after h) bytes ⊎
    StandsForList shard (accepted_of shard list (ended_by h client call FailedTook lost)) (after_call (store_after h) call) bytes
