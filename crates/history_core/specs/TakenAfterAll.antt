-- A call of which it isn't known whether it took effect: one that a disk's fault ended, or one that was in progress at a crash.
use Rattle.std.specs.Prelude.{◌≡◌, ℕ, List}
use Rattle.std.specs.List.{AllByRecursion}
use Rattle.update_core.specs.declared.updates.Update.{Update}
use Rattle.store_core.specs.declared.shards.ShardId.{ShardId}
use Rattle.store_core.specs.declared.calls.Call.{Call}
use Rattle.store_core.specs.declared.outcomes.Outcome.{Outcome}
use Rattle.store_core.specs.declared.outcomes.Outcome.TheVariants.{Took, FailedTook, FailedLost}
use Rattle.store_core.specs.declared.entries.Entry.{Entry}
use Rattle.store_core.specs.Stores.{after_call}
use Rattle.store_core.specs.Histories.{History, store_after, with_entry, entry_of}
use Rattle.store_core.specs.Ports.{with_entries}
use Rattle.history_core.specs.Discipline.{Lawful}
use Rattle.history_core.specs.Stands.{StandsFor, accepted_of}

-- each of these calls failed and had no effect
abbrev pub AllLost : List Entry → Type 0
AllLost es = AllByRecursion (λ e. e.outcome ≡ FailedLost) es

-- the history with one more call, and then entries
abbrev pub ended_by : History → ℕ → Call → Outcome → List Entry → History
ended_by h client call o es = with_entries (with_entry h (entry_of client call o)) es

-- Whatever the outcome of its last call, a history is as lawful.
abbrev pub AnyLastOutcome : Type 0
AnyLastOutcome =
    (h : History) (client : ℕ) (call : Call) (o p : Outcome) → Lawful (with_entry h (entry_of client call o)) →
    Lawful (with_entry h (entry_of client call p))

-- A call that failed and was lost may be one that took effect after all, where after it only such calls come.
abbrev pub TakenAfterAll : Type 0
TakenAfterAll =
    (h : History) (client : ℕ) (call : Call) (lost : List Entry) → AllLost lost → Lawful (ended_by h client call FailedLost lost) →
    Lawful (ended_by h client call FailedTook lost)

-- The store before a call that the discipline allows stands for what is accepted without it, and the store after it for what is
-- accepted with it.
abbrev pub StandsInProgress : Type 0
StandsInProgress =
    (shard : ShardId) (list : List Update) (h : History) (client : ℕ) (call : Call) (o : Outcome) → StandsFor h.start shard list →
    Lawful (with_entry h (entry_of client call o)) →
    StandsFor (store_after h) shard (accepted_of shard list h) ×
    StandsFor (after_call (store_after h) call) shard (accepted_of shard list (with_entry h (entry_of client call Took)))

-- The same of a call that failed and was lost, where after it only such calls come: it counts as lost, or as one that took effect.
abbrev pub StandsEitherWay : Type 0
StandsEitherWay =
    (shard : ShardId) (list : List Update) (h : History) (client : ℕ) (call : Call) (lost : List Entry) → StandsFor h.start shard list →
    AllLost lost → Lawful (ended_by h client call FailedLost lost) →
    StandsFor (store_after h) shard (accepted_of shard list (ended_by h client call FailedLost lost)) ×
    StandsFor (after_call (store_after h) call) shard (accepted_of shard list (ended_by h client call FailedTook lost))
