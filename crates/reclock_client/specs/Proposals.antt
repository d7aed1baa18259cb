-- What an operator's writers append: a mint's rows to the remap shard, a publish's to the data shard.
use Rattle.std.specs.Prelude.{◌≡◌, ℕ, ◌+◌, ◌≤◌, true, Option, Some, IsSome, List}
use Rattle.update_core.specs.declared.updates.Update.{Update}
use Rattle.update_core.specs.Frontiers.{after, covers}
use Rattle.update_core.specs.Updates.{slice_of}
use Rattle.store_core.specs.declared.shards.ShardId.{ShardId}
use Rattle.store_core.specs.declared.calls.Call.TheVariants as calls
use Rattle.store_core.specs.Histories.{History}
use Rattle.store_core.specs.declared.part_keys.PartKey.{PartKey}
use Rattle.state_core.specs.declared.transitions.Transition.TheVariants.{Append}
use Rattle.state_core.specs.States.{ShardState}
use Rattle.version_codec.specs.Reading.{version_in}
use Rattle.history_core.specs.declared.write_answers.WriteAnswer.{WriteAnswer}
use Rattle.load_core.specs.declared.polls.Poll.{Poll}
use Rattle.machine_core.specs.Polling.{Calls}
use Rattle.write_client.specs.Machining as writes
use Rattle.write_client.specs.declared.writers.Writer.{Writer}
use Rattle.write_client.specs.Drafting.{IsDraftOf}
use Rattle.remap_core.specs.declared.source_rows.SourceRow.{SourceRow}
use Rattle.remap_core.specs.Extending.{reached}
use Rattle.remap_core.specs.Reclocking.{reclocked}
use Rattle.reclock_client.specs.declared.errands.Errand.TheVariants as errands
use Rattle.reclock_client.specs.declared.operators.Operator.{Operator}
use Rattle.reclock_client.specs.declared.steps.Part.TheVariants as parts
use Rattle.reclock_client.specs.Asking.{InTurn}
use Rattle.reclock_client.specs.Known.{known}
use Rattle.reclock_client.specs.Minting.{rises}
use Rattle.reclock_client.specs.Operators.{IsSound}
use Rattle.reclock_client.specs.Parts.{part_of}

-- An append is a mint's: it runs from an upper that isn't above the mint's time up to just after that time, and its rows, all at that
-- time, raise each partition to the greater of what is known and what was seen.
pub record IsMintAppend (o : Operator) (expected : ℕ) (new : Option ℕ) (rows : List Update) : Type 0 where
  pub time : ℕ
  pub seen : List ℕ
  pub errand_is : o.course.errand ≡ Some (errands.Mint time seen)
  pub before : expected ≤ time
  pub to_is : new ≡ after time
  pub rows_are : rows ≡ rises time (reached (known o.course)) seen

-- An append is a publish's: it runs from an upper below the synced frontier up to that one, with the rows between them of those that the
-- known bindings give.
pub record IsPublishAppend (o : Operator) (expected : ℕ) (new : Option ℕ) (rows : List Update) : Type 0 where
  pub source : List SourceRow
  pub errand_is : o.course.errand ≡ Some (errands.Publish source)
  pub forward : covers o.course.synced expected ≡ true
  pub to_is : new ≡ o.course.synced
  pub rows_are : rows ≡ slice_of (reclocked source (known o.course) 0) (Some expected) o.course.synced

-- a transition that a writer tries is an append of such rows, which its parts hold
pub record Appends (w : Writer) (shard : ShardId) (expected : ℕ) (new : Option ℕ) (Is : List Update → Type 0) : Type 0 where
  pub rows : List Update
  pub member : ℕ
  pub draft : IsDraftOf shard member w.token expected new rows w.storing.trying.step w.storing.setting
  pub rows_are : Is rows

-- whatever an operator's open writer of the remap shard appends is a mint's
abbrev pub RemapAppends : Type 0
RemapAppends = (o : Operator) → IsSound o → InTurn o → IsSome o.course.errand → part_of o.course.step ≡ parts.RemapWriter →
    IsSome o.remap_writer.asked → (member token expected count weight : ℕ) (new : Option ℕ) (keys : List PartKey) →
    o.remap_writer.storing.trying.step ≡ Append member token expected new keys count weight →
    Appends o.remap_writer o.remap expected new (IsMintAppend o expected new)

-- and of the data shard a publish's
abbrev pub DataAppends : Type 0
DataAppends = (o : Operator) → IsSound o → InTurn o → IsSome o.course.errand → part_of o.course.step ≡ parts.DataWriter →
    IsSome o.data_writer.asked → (member token expected count weight : ℕ) (new : Option ℕ) (keys : List PartKey) →
    o.data_writer.storing.trying.step ≡ Append member token expected new keys count weight →
    Appends o.data_writer o.data_shard expected new (IsPublishAppend o expected new)

-- Each append that a poll of the remap shard's writer commits, or may have committed, is a mint's: wherever its call is a Cas on a
-- version whose bytes have an append as their transition.
abbrev pub RemapCalls : Type 0
RemapCalls = (o : Operator) → IsSound o → InTurn o → IsSome o.course.errand → part_of o.course.step ≡ parts.RemapWriter →
    IsSome o.remap_writer.asked → (client : ℕ) (front front_now : Option History) (w : Writer) (poll : Poll WriteAnswer) →
    (c : Calls writes.machine client front front_now o.remap_writer w poll) →
    (shard : ShardId) (number : ℕ) (bytes : List ℕ) (to : ShardState) (member token expected count weight : ℕ) (new : Option ℕ)
    (keys : List PartKey) → c.call ≡ calls.Cas shard (Some number) bytes →
    version_in shard (number + 1) bytes ≡ Some (to, Append member token expected new keys count weight) →
    (shard ≡ o.remap) × Appends o.remap_writer o.remap expected new (IsMintAppend o expected new)

-- and of the data shard's writer a publish's
abbrev pub DataCalls : Type 0
DataCalls = (o : Operator) → IsSound o → InTurn o → IsSome o.course.errand → part_of o.course.step ≡ parts.DataWriter →
    IsSome o.data_writer.asked → (client : ℕ) (front front_now : Option History) (w : Writer) (poll : Poll WriteAnswer) →
    (c : Calls writes.machine client front front_now o.data_writer w poll) →
    (shard : ShardId) (number : ℕ) (bytes : List ℕ) (to : ShardState) (member token expected count weight : ℕ) (new : Option ℕ)
    (keys : List PartKey) → c.call ≡ calls.Cas shard (Some number) bytes →
    version_in shard (number + 1) bytes ≡ Some (to, Append member token expected new keys count weight) →
    (shard ≡ o.data_shard) × Appends o.data_writer o.data_shard expected new (IsPublishAppend o expected new)
