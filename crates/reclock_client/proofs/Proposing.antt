-- What an operator's writers append is a mint's or a publish's.
use Rattle.std.proofs.Common.{◌≡◌, ℕ, ◌+◌, ◌≤◌, true, false, Option, Some, None, List, [], refl, sym, ap, subst, ◌∙◌}
use Rattle.std.specs.Prelude.{IfSome, IsSome, IsSomeAnd}
use Rattle.update_core.specs.declared.updates.Update.{Update}
use Rattle.update_core.specs.Frontiers.{after, covers}
use Rattle.update_core.specs.Updates.{slice_of}
use Rattle.store_core.specs.declared.shards.ShardId.{ShardId}
use Rattle.store_core.specs.declared.calls.Call.{Call}
use Rattle.store_core.specs.declared.calls.Call.TheVariants as calls
use Rattle.store_core.specs.declared.part_keys.PartKey.{PartKey}
use Rattle.state_core.specs.declared.transitions.Transition.{Transition}
use Rattle.state_core.specs.declared.transitions.Transition.TheVariants.{Append, Leave}
use Rattle.state_core.specs.States.{ShardState}
use Rattle.version_codec.specs.Reading.{version_in}
use Rattle.history_core.specs.declared.asked.Asked.{Asked}
use Rattle.history_core.specs.declared.asked.Asked.TheVariants as asks
use Rattle.load_core.specs.Runs.{OnlyCarries}
use Rattle.write_client.specs.declared.writers.Writer.{Writer}
use Rattle.write_client.specs.Drafting.{IsDraftOf}
use Rattle.write_client.specs.Writing as writers
use Rattle.remap_core.specs.Extending.{reached}
use Rattle.remap_core.specs.Reclocking.{reclocked}
use Rattle.reclock_client.specs.declared.errands.Errand.{Errand}
use Rattle.reclock_client.specs.declared.errands.Errand.TheVariants as errands
use Rattle.reclock_client.specs.declared.operators.Operator.{Operator}
use Rattle.reclock_client.specs.declared.steps.Part.{Part}
use Rattle.reclock_client.specs.declared.steps.Part.TheVariants as parts
use Rattle.reclock_client.specs.declared.steps.Step.{Step}
use Rattle.reclock_client.specs.declared.steps.Step.TheVariants as steps
use Rattle.reclock_client.specs.Asking.{AsksAt, AsksData, AsksOwn, AsksRemap, IsAppendOf, asks_of, duties}
use Rattle.reclock_client.specs.Known.{known}
use Rattle.reclock_client.specs.Minting.{mint_rows, rises, slice_rows}
use Rattle.reclock_client.specs.Parts.{part_of}
use Rattle.reclock_client.specs.Proposals.{DataAppends, IsMintAppend, IsPublishAppend, RemapAppends, DataCalls, RemapCalls}
use Rattle.reclock_client.specs.Turns.{Takes, clients, heard}
use Rattle.reclock_client.proofs.Turning.{serves_at}

-- ---- the parts of an append

abbrev from_of : Transition → ℕ
from_of (Append member token expected new keys count weight) = expected
from_of other = 0

abbrev to_of : Transition → Option ℕ
to_of (Append member token expected new keys count weight) = new
to_of other = None

abbrev appends : Transition → Option ℕ
appends (Append member token expected new keys count weight) = Some expected
appends other = None

abbrev rows_in : Asked → List Update
rows_in (asks.Append rows expected new) = rows
rows_in other = []

abbrev from_in : Asked → ℕ
from_in (asks.Append rows expected new) = expected
from_in other = 0

abbrev to_in : Asked → Option ℕ
to_in (asks.Append rows expected new) = new
to_in other = None

abbrev is_append : Asked → Option ℕ
is_append (asks.Append rows expected new) = Some expected
is_append other = None

no_append : {X : Type 0} (n : ℕ) → None ≡ Some n → X
no_append n e = absurd (let bad : None ≡ Some n = e in cc)

-- what a sound writer tries, where it is an append, is the open one
record Tries (w : Writer) (shard : ShardId) (expected : ℕ) (new : Option ℕ) : Type 0 where
  pub rows : List Update
  pub asked_is : w.asked ≡ Some (asks.Append rows expected new)
  pub member : ℕ
  pub draft : IsDraftOf shard member w.token expected new rows w.storing.trying.step w.storing.setting

module _ (w : Writer) (shard : ShardId) (at : writers.shard_of w ≡ shard) (member token expected count weight : ℕ) (new : Option ℕ)
    (keys : List PartKey) (step : w.storing.trying.step ≡ Append member token expected new keys count weight) where
  tries : (a : Option Asked) → w.asked ≡ a → IsSome a → IfSome a (writers.IsAsked w) → Tries w shard expected new
  tries None is some asked = absurd (let bad : false ≡ true = some in cc)
  tries (Some (asks.OpenWriter s)) is some asked = no_append expected (sym (ap appends asked.2) ∙ ap appends step)
  tries (Some (asks.Append rows e n)) is some asked =
      let from_is : e ≡ expected = ap from_of (sym asked.draft.step_is ∙ step) in
      let to_is : n ≡ new = ap to_of (sym asked.draft.step_is ∙ step) in
      record {
        rows = rows;
        asked_is = is ∙ (λ i. Some (asks.Append rows (from_is i) (to_is i)));
        member = asked.member;
        draft = moved_draft from_is to_is asked.draft;
      }
    where
      moved_draft : e ≡ expected → n ≡ new → IsDraftOf
          (writers.shard_of w) asked.member w.token e n rows w.storing.trying.step w.storing.setting →
          IsDraftOf shard asked.member w.token expected new rows w.storing.trying.step w.storing.setting
      moved_draft f t d = subst (λ (s : ShardId). IsDraftOf s asked.member w.token expected new rows w.storing.trying.step
          w.storing.setting) at
          (subst (λ (x : ℕ). IsDraftOf (writers.shard_of w) asked.member w.token x new rows w.storing.trying.step w.storing.setting) f
          (subst (λ (x : Option ℕ). IsDraftOf
          (writers.shard_of w) asked.member w.token e x rows w.storing.trying.step w.storing.setting) t d))
  tries (Some asks.CloseWriter) is some asked = closes w.member asked
    where
      closes : (m : Option ℕ) → IsSomeAnd m (λ member. w.storing.trying.step ≡ Leave member) × (w.storing.setting.keys ≡ []) →
          Tries w shard expected new
      closes None k = absurd k.0
      closes (Some m) k = no_append expected (sym (ap appends k.0) ∙ ap appends step)
  tries (Some other) is some asked = absurd asked

-- ---- the remap shard

module _ (o : Operator) (rows : List Update) (expected : ℕ) (new : Option ℕ) where
  mint_append : (step : Step) (errand : Errand) → o.course.errand ≡ Some errand → Takes (clients o) (heard o.course) errand step →
      AsksRemap (duties o) step (asks.Append rows expected new) → IsMintAppend o expected new rows
  mint_append (steps.AppendRemap from) (errands.Mint t seen) e h own =
      let is : asks.Append rows expected new ≡ asks.Append (rises t (reached (known o.course)) seen) from (after t) =
      subst (λ (x : Option Errand). IsAppendOf (mint_rows (known o.course) x) from (asks.Append rows expected new)) e own in
      record {
        time = t;
        seen = seen;
        errand_is = e;
        before = subst (λ (x : ℕ). x ≤ t) (sym (ap from_in is)) h.1;
        to_is = ap to_in is;
        rows_are = ap rows_in is;
      }
  mint_append (steps.AppendRemap from) other e h own = absurd h
  mint_append steps.JoinRemap errand e h own = no_append expected (sym (ap is_append own))
  mint_append steps.LeaveRemap errand e h own = no_append expected (sym (ap is_append own))
  mint_append other errand e h own = absurd own

  publish_append : (step : Step) (errand : Errand) → o.course.errand ≡ Some errand → Takes (clients o) (heard o.course) errand step →
      AsksData (duties o) step (asks.Append rows expected new) → IsPublishAppend o expected new rows
  publish_append (steps.AppendData from) (errands.Publish source) e h own =
      let is : asks.Append rows expected new
      ≡ asks.Append (slice_of (reclocked source (known o.course) 0) (Some from) o.course.synced) from o.course.synced =
      subst (λ (x : Option Errand). IsAppendOf (slice_rows (known o.course) o.course.synced x from) from
      (asks.Append rows expected new)) e own in
      let from_is : expected ≡ from = ap from_in is in
      record {
        source = source;
        errand_is = e;
        forward = subst (λ (x : ℕ). covers o.course.synced x ≡ true) (sym from_is) h.1;
        to_is = ap to_in is;
        rows_are = ap rows_in is ∙ ap (λ (x : ℕ). slice_of (reclocked source (known o.course) 0) (Some x) o.course.synced) (sym from_is);
      }
  publish_append (steps.AppendData from) other e h own = absurd h
  publish_append steps.JoinData errand e h own = no_append expected (sym (ap is_append own))
  publish_append steps.LeaveData errand e h own = no_append expected (sym (ap is_append own))
  publish_append other errand e h own = absurd own

-- the open command is the step's
pub own_at : (o : Operator) (errand : Errand) (part : Part) → o.course.errand ≡ Some errand → part_of o.course.step ≡ part → AsksOwn o →
    AsksAt (asks_of o) (duties o) o.course.step part
own_at o errand part e at own = subst (λ (p : Part). AsksAt (asks_of o) (duties o) o.course.step p) at
    (subst (λ (x : Option Errand). IfSome x (λ errand. AsksAt (asks_of o) (duties o) o.course.step (part_of o.course.step))) e own)

pub remap_appends : RemapAppends
remap_appends o s turn busy at some member token expected count weight new keys step =
    let k = tries o.remap_writer o.remap s.machines.writes_remap member token expected count weight new keys step o.remap_writer.asked
    refl some
    s.machines.remap_writer.asked in
    record {
      rows = k.rows;
      member = k.member;
      draft = k.draft;
      rows_are = serves_at o turn.0 busy o.course.step refl (λ errand e h. mint_append o k.rows expected new o.course.step errand e h.takes
          (subst (λ (a : Option Asked). IfSome a (AsksRemap (duties o) o.course.step)) k.asked_is
          (own_at o errand parts.RemapWriter e at turn.1)));
    }

pub data_appends : DataAppends
data_appends o s turn busy at some member token expected count weight new keys step =
    let k = tries o.data_writer o.data_shard s.machines.writes_data member token expected count weight new keys step o.data_writer.asked
    refl
    some s.machines.data_writer.asked in
    record {
      rows = k.rows;
      member = k.member;
      draft = k.draft;
      rows_are = serves_at o turn.0 busy o.course.step refl
          (λ errand e h. publish_append o k.rows expected new o.course.step errand e h.takes
          (subst (λ (a : Option Asked). IfSome a (AsksData (duties o) o.course.step)) k.asked_is
          (own_at o errand parts.DataWriter e at turn.1)));
    }

-- ---- what a call carries

abbrev steps_of : Transition → Option (ShardState × Transition) → Transition
steps_of d None = d
steps_of d (Some v) = v.1

-- one transition stands in the bytes
same_step : (a b : ShardState) (x y : Transition) (v : Option (ShardState × Transition)) → v ≡ Some (a, x) → v ≡ Some (b, y) → x ≡ y
same_step a b x y v h k = ap (steps_of x) (sym h ∙ k)

carried : (at_shard : ShardId) (tried : Transition) (call : Call) (shard : ShardId) (number : ℕ) (bytes : List ℕ) (to : ShardState)
    (step : Transition) → call ≡ calls.Cas shard (Some number) bytes → version_in shard (number + 1) bytes ≡ Some (to, step) →
    OnlyCarries at_shard tried call → (shard ≡ at_shard) × (tried ≡ step)
carried at_shard tried call shard number bytes to step is written carries =
    let k = subst (OnlyCarries at_shard tried) is carries in (
      k.0,
      same_step k.1.0 to tried step (version_in at_shard (number + 1) bytes) k.1.1
          (subst (λ (x : ShardId). version_in x (number + 1) bytes ≡ Some (to, step)) k.0 written),
    )

pub remap_calls : RemapCalls
remap_calls o s turn busy at some client front now w poll c shard number bytes to member token expected count weight new keys is written =
    let k = carried (writers.shard_of o.remap_writer) o.remap_writer.storing.trying.step c.call shard number bytes to
    (Append member token expected new keys count weight) is written c.effect.carries in (
      k.0 ∙ s.machines.writes_remap,
      remap_appends o s turn busy at some member token expected count weight new keys k.1,
    )

pub data_calls : DataCalls
data_calls o s turn busy at some client front now w poll c shard number bytes to member token expected count weight new keys is written =
    let k = carried (writers.shard_of o.data_writer) o.data_writer.storing.trying.step c.call shard number bytes to
    (Append member token expected new keys count weight) is written c.effect.carries in (
      k.0 ∙ s.machines.writes_data,
      data_appends o s turn busy at some member token expected count weight new keys k.1,
    )
