-- What a change of a shard's members comes to, once for every kind of member.
use Rattle.std.specs.Prelude.{⊤, ◌≡◌, ℕ, ◌-◌, ◌<◌, Bool, true, false, ◌==◌, if◌then◌else◌, is_none, Option, Some, None}
use Rattle.state_core.specs.declared.kinds.Kind.{Kind}
use Rattle.state_core.specs.declared.refusals.Refusal.{Refusal}
use Rattle.state_core.specs.declared.refusals.Refusal.TheVariants as refusals
use Rattle.state_core.specs.declared.transitions.Transition.{Transition}
use Rattle.state_core.specs.declared.transitions.Transition.TheVariants.{Join, Leave, Renew, Advance}
use Rattle.state_core.specs.Refusals.{is_shaped, member_of}
use Rattle.state_core.specs.States.{ShardState, is_reader, is_writer}
use Rattle.update_core.specs.Limits.{most}
use Rattle.load_core.specs.declared.tries.Tried.{Tried}
use Rattle.load_core.specs.declared.tries.Tried.TheVariants as tries
use Rattle.load_core.specs.declared.tryings.Trying.{Trying}
use Rattle.change_core.specs.declared.outcomes.Outcome.{Outcome}
use Rattle.change_core.specs.declared.outcomes.Outcome.TheVariants as outcomes

-- ---- the newest state

abbrev pub number_of : Option ShardState → ℕ
number_of None = 0
number_of (Some s) = s.number

abbrev pub since_of : Option ShardState → ℕ
since_of None = 0
since_of (Some s) = s.since

-- the last member of a state that has just joined
abbrev pub last_member : Option ShardState → ℕ
last_member None = 0
last_member (Some s) = s.next_member - 1

-- whether a member doesn't stand
abbrev pub is_gone : ℕ → Option ShardState → Bool
is_gone member None = true
is_gone member (Some s) = is_none (member_of member s.members)

-- ---- what it comes to

abbrev pub committed_outcome : Option ShardState → Transition → ℕ → Outcome
committed_outcome newest (Join kind now lease) version = outcomes.Joined (last_member newest) version (since_of newest)
committed_outcome newest _ version = outcomes.Committed version

-- a join that is refused: that no number is left comes before that 256 members stand
abbrev pub full_outcome : ℕ → Outcome
full_outcome number = if number == most then outcomes.Spent else outcomes.Full number

abbrev pub join_outcome : Option ShardState → Refusal → Outcome
join_outcome newest (refusals.MembersFull count) = full_outcome (number_of newest)
join_outcome newest _ = outcomes.Strange (number_of newest)

-- another change that is refused: its member is gone, or its since is past the time that was asked
abbrev pub absent_outcome : Option ShardState → ℕ → Outcome
absent_outcome newest member = if is_gone member newest then outcomes.Gone (number_of newest) else outcomes.Strange (number_of newest)

abbrev pub member_outcome : Option ShardState → ℕ → Refusal → Outcome
member_outcome newest member (refusals.Back since) = outcomes.Back since
member_outcome newest member refusals.NoMember = absent_outcome newest member
member_outcome newest member _ = outcomes.Strange (number_of newest)

abbrev pub refused_outcome : Option ShardState → ℕ → Transition → Refusal → Outcome
refused_outcome newest member (Join kind now lease) refusal = join_outcome newest refusal
refused_outcome newest member _ refusal = member_outcome newest member refusal

abbrev pub outcome : Trying → ℕ → Tried → Outcome
outcome t member (tries.Committed version) = committed_outcome t.loader.cached t.step version
outcome t member tries.Begun = outcomes.Going
outcome t member tries.Again = outcomes.Going
outcome t member tries.Goes = outcomes.Going
outcome t member tries.Fault = outcomes.Fault
outcome t member (tries.Refused refusal) = refused_outcome t.loader.cached member t.step refusal
outcome t member tries.Spent = outcomes.Spent
outcome t member (tries.Damaged damage) = outcomes.Damaged damage

-- ---- which changes a member of a kind tries

abbrev pub ChangesAs : Kind → ℕ → Transition → Type 0
ChangesAs kind member (Join k now lease) = k ≡ kind
ChangesAs kind member (Leave m) = m ≡ member
ChangesAs kind member (Renew m now) = (m ≡ member) × (is_writer kind ≡ false)
ChangesAs kind member (Advance m to) = (m ≡ member) × (is_reader kind ≡ true)
ChangesAs kind member _ = ⊥

-- a change of a member of a kind, or its join
pub record IsChange (kind : Kind) (member : ℕ) (step : Transition) : Type 0 where
  pub changes : ChangesAs kind member step
  -- no state refuses it for its shape
  pub shaped : (s : ShardState) → is_shaped s step ≡ true

-- it isn't the join
abbrev pub IsOfMember : Transition → Type 0
IsOfMember (Join kind now lease) = ⊥
IsOfMember _ = ⊤

abbrev pub Joins : Transition → Type 0
Joins (Join kind now lease) = ⊤
Joins _ = ⊥

-- ---- which outcomes a change has

-- an advance asks for a time before this one
abbrev pub AsksBefore : ℕ → Transition → Type 0
AsksBefore since (Advance member to) = to < since
AsksBefore since _ = ⊥

-- A join ends as joined or full, another change as committed or gone, an advance also as back, and each of them as spent. Nothing is
-- damaged, and no member is shown otherwise than it was left.
abbrev pub IsAnswerTo : Transition → Outcome → Type 0
IsAnswerTo step outcomes.Going = ⊤
IsAnswerTo step outcomes.Fault = ⊤
IsAnswerTo step outcomes.Spent = ⊤
IsAnswerTo step (outcomes.Joined member version since) = Joins step
IsAnswerTo step (outcomes.Full version) = Joins step
IsAnswerTo step (outcomes.Committed version) = IsOfMember step
IsAnswerTo step (outcomes.Gone version) = IsOfMember step
IsAnswerTo step (outcomes.Back since) = AsksBefore since step
IsAnswerTo step (outcomes.Strange version) = ⊥
IsAnswerTo step (outcomes.Damaged damage) = ⊥
