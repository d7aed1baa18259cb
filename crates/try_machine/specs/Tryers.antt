-- A machine whose commands each try one transition. Entries go newest first.
use Rattle.std.specs.Prelude.{⊤, ◌≡◌, ◌⊎◌, ℕ, ◌<◌, Option, Some, None, IsSome, IfSome, IsSomeAnd, List, []}
use Rattle.std.specs.Option.{option_map}
use Rattle.store_core.specs.declared.shards.ShardId.{ShardId}
use Rattle.store_core.specs.declared.calls.Call.{Call}
use Rattle.store_core.specs.declared.replies.Reply.{Reply}
use Rattle.store_core.specs.declared.replies.Reply.TheVariants as replies
use Rattle.store_core.specs.declared.entries.Entry.{Entry}
use Rattle.store_core.specs.Stores.{Stored}
use Rattle.store_core.specs.Newest.{mine_back}
use Rattle.state_core.specs.declared.transitions.Transition.{Transition}
use Rattle.state_core.specs.States.{ShardState}
use Rattle.update_core.specs.Limits.{most}
use Rattle.history_core.specs.Costs.{change_base}
use Rattle.history_core.specs.Placing.{places}
use Rattle.load_core.specs.declared.polls.Poll.{Poll}
use Rattle.load_core.specs.declared.polls.Poll.TheVariants as polls
use Rattle.load_core.specs.declared.tries.Tried.{Tried}
use Rattle.load_core.specs.declared.tries.Tried.TheVariants as tries
use Rattle.load_core.specs.declared.tryings.Trying.{Trying}
use Rattle.load_core.specs.Costing.{CostEnded, CostKept, IsPrepared}
use Rattle.load_core.specs.Effects.{CommitsFirst, CommitsNone, CommitsStep, IsShown}
use Rattle.load_core.specs.Following.{FollowsTrying}
use Rattle.load_core.specs.Runs.{OnlyCarries}
use Rattle.load_core.specs.Trying as trying
use Rattle.machine_core.specs.Machines.{Words}
use Rattle.try_machine.specs.declared.tryers.Tryer.{Tryer}
use Rattle.try_machine.specs.Rules.{AsksSame, Rules}

-- ---- what it does

-- the rule with the memory for an answer
abbrev pub looked_asked : {R A : Type 0} → Rules R A → Option R → Option ShardState → Option R
looked_asked Q None newest = None
looked_asked Q (Some r) newest = Some (Q.looked r newest)

-- they ask the same
abbrev pub AskSame : {R A : Type 0} → Rules R A → Option R → Option R → Type 0
AskSame Q None new = ⊤
AskSame Q (Some r) new = IfSome new (λ q. AsksSame Q r q)

abbrev pub Prepares : {R A : Type 0} → Rules R A → Tryer R → Tryer R → Type 0
Prepares Q old new = (t : Trying) × trying.Prepares old.trying t × (new ≡ record {
  trying = t;
  asked = looked_asked Q old.asked old.trying.loader.cached;
})

-- what is answered to a Scan that shows no version, where none was seen
abbrev pub empty_by : {A : Type 0} → Option ShardState → Reply → Option A → Option A
empty_by None (replies.Versions []) answer = answer
empty_by _ _ answer = None

abbrev pub empty_of : {R A : Type 0} → Rules R A → Option R → Option A
empty_of Q None = None
empty_of Q (Some r) = Q.empty r

abbrev pub empty_answer : {R A : Type 0} → Rules R A → Tryer R → Reply → Option A
empty_answer Q t r = empty_by t.trying.loader.cached r (empty_of Q t.asked)

abbrev pub verdict : {R A : Type 0} → Rules R A → R → Trying → Tried → Poll A
verdict Q r t (tries.Committed version) = polls.Done (Q.committed r t.loader.cached version)
verdict Q r t tries.Begun = polls.More
verdict Q r t tries.Again = polls.More
verdict Q r t tries.Goes = polls.More
verdict Q r t tries.Fault = polls.Fault
verdict Q r t (tries.Refused refusal) = Q.refused r t.loader.cached refusal
verdict Q r t tries.Spent = polls.Spent
verdict Q r t (tries.Damaged damage) = polls.Damaged damage

-- what is asked after a poll
abbrev pub asked_after : {R A : Type 0} → Option R → Poll A → Option R
asked_after asked polls.Busy = asked
asked_after asked polls.More = asked
asked_after asked polls.Fault = asked
asked_after asked _ = None

abbrev pub MovesBy : {R A : Type 0} → Rules R A → Option A → R → Tryer R → Reply → Tryer R → Poll A → Type 0
MovesBy Q (Some answer) r old reply new poll = (poll ≡ polls.Done answer) × (new ≡ record {
  trying = trying.called old.trying;
  asked = None;
})
MovesBy Q None r old reply new poll =
    (t : Trying) × (tried : Tried) × trying.Moves old.trying reply t tried × (poll ≡ verdict Q r t tried) × (new ≡ record {
      trying = t;
      asked = asked_after (Some r) poll;
    })

abbrev pub Moves : {R A : Type 0} → Rules R A → Tryer R → Reply → Tryer R → Poll A → Type 0
Moves Q old reply new poll = IsSomeAnd old.asked (λ r. MovesBy Q (empty_answer Q old reply) r old reply new poll)

-- ---- what it holds

-- where nothing is to be made of a shard without versions, none is ready
pub record SoundBy {R A : Type 0} (Q : Rules R A) (t : Trying) (r : R) : Type 0 where
  pub step_is : t.step ≡ Q.step (Q.fixed r)
  pub unready : IsSome (Q.empty r) → t.loader.cached ≡ None → trying.IsScanning t.next

pub record IsSound {R A : Type 0} (Q : Rules R A) (t : Tryer R) : Type 0 where
  pub trying : trying.IsSound t.trying
  pub asked : IfSome t.asked (SoundBy Q t.trying)

-- its memory is that of the newest state
abbrev pub HasLooked : {R A : Type 0} → Rules R A → Option ShardState → R → Type 0
HasLooked Q newest r = (before : _) × (r ≡ Q.looked before newest)

pub record IsReady {R A : Type 0} (Q : Rules R A) (t : Tryer R) : Type 0 where
  pub sound : IsSound Q t
  pub looked : IfSome t.asked (HasLooked Q t.trying.loader.cached)
  pub prepared : IsPrepared t.trying.next

-- ---- in a history

pub record TryKept (F : Type 0) : Type 0 where
  pub fixed : Option F
  pub shard : ShardId
  pub step : Transition

abbrev pub kept : {R A : Type 0} → (Q : Rules R A) → Tryer R → TryKept Q.Fixed
kept Q t = record { fixed = option_map Q.fixed t.asked; shard = t.trying.loader.shard; step = t.trying.step }

-- what its call has committed, by what the poll comes to
abbrev pub DidBy : {A : Type 0} → ShardId → Transition → Call → Reply → Poll A → Type 0
DidBy shard step call r polls.More = CommitsNone r ⊎ CommitsFirst shard call r
DidBy shard step call r polls.Spent = CommitsNone r × IsShown shard call r
DidBy shard step call r (polls.Done answer) = CommitsStep shard step call r ⊎ (CommitsNone r × IsShown shard call r)
DidBy shard step call r _ = ⊤

pub record Did {F A : Type 0} (k : TryKept F) (call : Call) (r : Reply) (poll : Poll A) : Type 0 where
  pub carries : OnlyCarries k.shard k.step call
  pub did : DidBy k.shard k.step call r poll

pub record Follows {R A : Type 0} (Q : Rules R A) (client : ℕ) (t : Tryer R) (start : Stored) (es : List Entry) : Type 0 where
  pub trying : FollowsTrying t.trying (mine_back start es client)
  pub asked : IfSome t.asked (λ r. Q.Knows (Q.fixed r) t.trying.loader.shard (mine_back start es client))

-- an answer leaves no command
pub record Ended {R F : Type 0} (k : TryKept F) (t : Tryer R) : Type 0 where
  pub asked : t.asked ≡ None
  pub shard : t.trying.loader.shard ≡ k.shard

-- such a machine, as one that is polled
abbrev pub words : {R A : Type 0} → Rules R A → Words (Tryer R) A
words Q = record {
  Kept = TryKept Q.Fixed;
  kept = kept Q;
  shard = λ k. k.shard;
  IsOpen = λ t. IsSome t.asked;
  IsSound = IsSound Q;
  IsReady = IsReady Q;
  calls_of = λ t. t.trying.calls;
  Prepares = Prepares Q;
  call_of = λ t. Some (trying.call_of t.trying);
  Moves = Moves Q;
  Wants = λ t new. trying.IsScanning t.trying.next × (new ≡ record { trying = trying.called t.trying; asked = t.asked });
  Ends = λ k answer t. Ended k t;
  Effect = Did;
  Follows = Follows Q;
  Spares = λ t call. ⊤;
  Legal = λ client k calls answer start es list. IfSome k.fixed (λ f. Q.Legal f k.shard start (places client calls es) answer);
  least = change_base;
  CostAt = λ base client t start es list. t.trying.calls < most → CostKept base client t.trying start es;
  CostOver = λ base client old new start es list. new.trying.calls < most → CostEnded base client new.trying start es;
}
