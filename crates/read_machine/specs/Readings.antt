-- A machine whose commands each ask a shard a question. Entries go newest first.
use Rattle.std.specs.Prelude.{⊤, ◌≡◌, ◌⊎◌, ℕ, ◌<◌, Option, Some, None, IsSome, IfSome, IsSomeAnd, List}
use Rattle.update_core.specs.declared.updates.Update.{Update}
use Rattle.store_core.specs.declared.part_keys.PartKey.{PartKey}
use Rattle.store_core.specs.declared.shards.ShardId.{ShardId}
use Rattle.store_core.specs.declared.calls.Call.{Call}
use Rattle.store_core.specs.declared.calls.Call.TheVariants as calls
use Rattle.store_core.specs.declared.replies.Reply.{Reply}
use Rattle.store_core.specs.declared.replies.Reply.TheVariants as replies
use Rattle.store_core.specs.declared.entries.Entry.{Entry}
use Rattle.store_core.specs.Stores.{Stored}
use Rattle.store_core.specs.Newest.{mine_back}
use Rattle.state_core.specs.declared.members.Member.{Member}
use Rattle.state_core.specs.Refusals.{member_of}
use Rattle.state_core.specs.States.{ShardState}
use Rattle.update_core.specs.Limits.{most}
use Rattle.history_core.specs.Placing.{places}
use Rattle.load_core.specs.declared.polls.Poll.{Poll}
use Rattle.load_core.specs.declared.polls.Poll.TheVariants as polls
use Rattle.load_core.specs.Effects.{CommitsNone, IsShown}
use Rattle.load_core.specs.Following.{FollowsLoading}
use Rattle.load_core.specs.Getting as getting
use Rattle.machine_core.specs.Machines.{Words}
use Rattle.read_machine.specs.declared.courses.Course.{Course}
use Rattle.read_machine.specs.declared.looks.Look.TheVariants as looks
use Rattle.read_machine.specs.declared.readings.Reading.{Reading}
use Rattle.read_machine.specs.declared.stages.Stage.{Stage}
use Rattle.read_machine.specs.declared.stages.Stage.TheVariants as stages
use Rattle.read_machine.specs.Courses.{MovesByStage, counted, read_call}
use Rattle.read_machine.specs.Following.{FollowsAsked, OverStage, ReadCost}
use Rattle.read_machine.specs.Questions.{Questions}

-- ---- what it does

-- what is asked after a poll
abbrev pub asked_after : {Q A : Type 0} → Option Q → Poll A → Option Q
asked_after asked polls.Busy = asked
asked_after asked polls.More = asked
asked_after asked polls.Fault = asked
asked_after asked _ = None

abbrev pub MovesBy : {Q A : Type 0} → Questions Q A → Q → Reading Q → Reply → Reading Q → Poll A → Type 0
MovesBy W q old reply new poll =
    (c : Course) × MovesByStage W old.course.stage (counted old.course) q reply c poll × (new ≡ record {
      course = c;
      asked = asked_after (Some q) poll;
    })

abbrev pub Moves : {Q A : Type 0} → Questions Q A → Reading Q → Reply → Reading Q → Poll A → Type 0
Moves W old reply new poll = IsSomeAnd old.asked (λ q. MovesBy W q old reply new poll)

-- ---- what it holds

-- the parts that are got are those that the newest state has for the question, its member stands there, and one is left
pub record IsGetting {Q A : Type 0} (W : Questions Q A) (c : Course) (q : Q) (s : ShardState) : Type 0 where
  pub found : Member
  pub found_is : member_of c.member s.members ≡ Some found
  pub keys : W.look q s ≡ looks.Parts c.getting.keys
  pub left : getting.IsOpen c.getting

-- what it holds of a question, by the stage
abbrev pub IsReading : {Q A : Type 0} → Questions Q A → Course → Stage → Q → Type 0
IsReading W c stages.Scan q = ⊤
IsReading W c stages.Get q = IsSomeAnd c.loader.cached (IsGetting W c q)
IsReading W c (stages.Check key) q = IsSomeAnd c.loader.cached (IsGetting W c q) × (getting.key_of c.getting ≡ Some key)

pub record SoundBy {Q A : Type 0} (W : Questions Q A) (c : Course) (q : Q) : Type 0 where
  pub known : IsSome c.loader.cached
  pub reading : IsReading W c c.stage q

pub record IsSound {Q A : Type 0} (W : Questions Q A) (r : Reading Q) : Type 0 where
  pub getting : getting.IsSound r.course.getting
  pub asked : IfSome r.asked (SoundBy W r.course)

-- ---- in a history

-- what stays of it while a command goes on
pub record ReadKept (Q : Type 0) : Type 0 where
  pub asked : Option Q
  pub member : ℕ
  pub shard : ShardId

abbrev pub kept : {Q : Type 0} → Reading Q → ReadKept Q
kept r = record { asked = r.asked; member = r.course.member; shard = r.course.loader.shard }

-- a Scan of the shard, or a Get
abbrev pub ReadsOf : ShardId → Call → Type 0
ReadsOf shard call = ((from : ℕ) × (call ≡ calls.Scan shard from)) ⊎ ((key : PartKey) × (call ≡ calls.Get key))

-- where an answer comes from: a Scan that showed a state that says it, the rows of parts, or a Scan that showed no such member
pub data CameBy {Q A : Type 0} (W : Questions Q A) (q : Q) (Shown : Type 0) (answer : A) : Type 0 where
  looked : (s : ShardState) → W.look q s ≡ looks.Answer answer → Shown → CameBy W q Shown answer
  read : (s : ShardState) (rows : List Update) → answer ≡ W.answer q s rows → CameBy W q Shown answer
  lapsed : (version : ℕ) → answer ≡ W.expired q version → Shown → CameBy W q Shown answer

-- what its call has done, by what the poll comes to: it commits nothing
abbrev pub DidBy : {Q A : Type 0} → Questions Q A → Q → Type 0 → Reply → Poll A → Type 0
DidBy W q Shown r polls.More = CommitsNone r
DidBy W q Shown r polls.Fault = r ≡ replies.Failed
DidBy W q Shown r (polls.Damaged damage) = ⊤
DidBy W q Shown r (polls.Done answer) = CommitsNone r × CameBy W q Shown answer
DidBy W q Shown r _ = ⊥

pub record Did {Q A : Type 0} (W : Questions Q A) (k : ReadKept Q) (call : Call) (r : Reply) (poll : Poll A) : Type 0 where
  pub reads : ReadsOf k.shard call
  pub did : IsSomeAnd k.asked (λ q. DidBy W q (IsShown k.shard call r) r poll)

pub record Follows {Q A : Type 0} (W : Questions Q A) (client : ℕ) (r : Reading Q) (start : Stored)
    (es : List Entry) : Type 0 where
  pub shown : FollowsLoading r.course.loader (mine_back start es client)
  pub asked : IfSome r.asked (λ q. FollowsAsked W.kind client r.course start es)

-- an answer leaves no command
pub record Ended {Q : Type 0} (k : ReadKept Q) (r : Reading Q) : Type 0 where
  pub asked : r.asked ≡ None
  pub shard : r.course.loader.shard ≡ k.shard

-- such a machine, as one that is polled
abbrev pub words : {Q A : Type 0} → Questions Q A → Words (Reading Q) A
words W = record {
  Kept = ReadKept _;
  kept = kept;
  shard = λ k. k.shard;
  IsOpen = λ r. IsSome r.asked;
  IsSound = IsSound W;
  IsReady = IsSound W;
  calls_of = λ r. r.course.calls;
  Prepares = λ old new. new ≡ old;
  call_of = λ r. read_call r.course r.course.stage;
  Moves = Moves W;
  Wants = λ r new. new ≡ record r { course = counted r.course };
  Ends = λ k answer r. Ended k r;
  Effect = Did W;
  Follows = Follows W;
  Spares = λ r call. ⊤;
  Legal = λ client k calls answer start es list. IfSome k.asked (λ q. W.Legal q k.shard k.member start
      (places client calls es) list answer);
  least = 0;
  CostAt = λ base client r start es list. r.course.calls < most → ReadCost client r.course r.course.stage es;
  CostOver = λ base client old new start es list. new.course.calls < most → OverStage client new.course old.course.stage es;
}
