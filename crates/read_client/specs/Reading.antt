-- A reader: what it does next, and what a reply makes of it.
use Rattle.std.specs.Prelude.{◌≡◌, ℕ, Option, Some, None, IsSome, IfSome, IsSomeAnd, unwrap_or, []}
use Rattle.update_core.specs.Frontiers.{after}
use Rattle.store_core.specs.declared.shards.ShardId.{ShardId}
use Rattle.store_core.specs.declared.calls.Call.{Call}
use Rattle.store_core.specs.declared.replies.Reply.{Reply}
use Rattle.state_core.specs.declared.kinds.Kind.TheVariants.{Reader as AsReader}
use Rattle.state_core.specs.declared.transitions.Transition.{Transition}
use Rattle.state_core.specs.declared.transitions.Transition.TheVariants.{Join, Leave, Renew, Advance}
use Rattle.history_core.specs.declared.asked.Asked.{Asked}
use Rattle.history_core.specs.declared.asked.Asked.TheVariants as asks
use Rattle.history_core.specs.declared.read_answers.ReadAnswer.{ReadAnswer}
use Rattle.history_core.specs.declared.read_answers.ReadAnswer.TheVariants as answers
use Rattle.load_core.specs.declared.damages.Damage.TheVariants as damages
use Rattle.load_core.specs.declared.polls.Poll.{Poll}
use Rattle.load_core.specs.declared.polls.Poll.TheVariants as polls
use Rattle.load_core.specs.declared.tries.Tried.{Tried}
use Rattle.load_core.specs.declared.tryings.Trying.{Trying}
use Rattle.load_core.specs.Getting as getting
use Rattle.load_core.specs.Loading.{Loading}
use Rattle.load_core.specs.Trying as trying
use Rattle.load_core.specs.Trying.{IsScanning}
use Rattle.change_core.specs.declared.outcomes.Outcome.{Outcome}
use Rattle.change_core.specs.declared.outcomes.Outcome.TheVariants as outcomes
use Rattle.change_core.specs.Changes.{number_of, outcome}
use Rattle.read_machine.specs.declared.readings.Reading.{Reading}
use Rattle.read_machine.specs.Courses as courses
use Rattle.read_machine.specs.Courses.{counted, read_call}
use Rattle.read_machine.specs.Readings as readings
use Rattle.read_client.specs.declared.questions.Question.{Question}
use Rattle.read_client.specs.declared.readers.Reader.{Reader}
use Rattle.read_client.specs.Asking.{asking, question_of}

-- nothing is known of the shard
abbrev pub unknown : ShardId → Loading
unknown shard = record { shard = shard; cached = None }

-- a reader whose open has begun
abbrev pub opened : ShardId → ℕ → ℕ → Reader
opened shard now lease = record {
  trying = trying.begun (unknown shard) (Join AsReader now lease);
  member = None;
  asked = Some (asks.OpenReader shard now lease);
  listen = None;
  reading = record { course = courses.begun (getting.begun []) (unknown shard) 0; asked = None };
}

-- a command is open
abbrev pub IsOpen : Reader → Type 0
IsOpen r = IsSome r.asked

-- the shard's name
abbrev pub shard_of : Reader → ShardId
shard_of r = r.trying.loader.shard

-- the question of the open command, where it reads the collection
abbrev pub question : Reader → Option Question
question r = question_of r.asked r.listen

-- what is tried on a shard for a member, or asked where a listen stands at a frontier, is what was asked
abbrev pub AsksAs : ShardId → Option ℕ → Transition → Option (Option ℕ) → Asked → Type 0
AsksAs at_shard member step listen (asks.OpenReader shard now lease) = (shard ≡ at_shard) × (member ≡ None) ×
    (step ≡ Join AsReader now lease)
AsksAs at_shard member step listen (asks.Snapshot t) = IsSome member
AsksAs at_shard member step listen (asks.Listen as_of) = IsSome member × (listen ≡ Some (after as_of))
AsksAs at_shard member step listen asks.Next = IsSome member × IsSome listen
AsksAs at_shard member step listen (asks.Advance to) = IsSomeAnd member (λ member. step ≡ Advance member to)
AsksAs at_shard member step listen (asks.RenewReader now) = IsSomeAnd member (λ member. step ≡ Renew member now)
AsksAs at_shard member step listen asks.CloseReader = IsSomeAnd member (λ member. step ≡ Leave member)
AsksAs at_shard member step listen _ = ⊥

-- what a reader tries or asks is what was asked
abbrev pub IsAsked : Reader → Asked → Type 0
IsAsked r asked = AsksAs (shard_of r) r.member r.trying.step r.listen asked

-- The question that is open is asked for the own member, of the same shard, after as many calls, and no version is ready
-- meanwhile.
pub record IsLent (r : Reader) : Type 0 where
  pub member : r.member ≡ Some r.reading.course.member
  pub shard : r.reading.course.loader.shard ≡ shard_of r
  pub calls : r.reading.course.calls ≡ r.trying.calls
  pub idle : IsScanning r.trying.next

-- what it holds besides any history
pub record IsSound (r : Reader) : Type 0 where
  pub trying : trying.IsSound r.trying
  pub reading : readings.IsSound asking r.reading
  pub asked : IfSome r.asked (IsAsked r)
  pub asks : r.reading.asked ≡ question r
  pub lent : IfSome (question r) (λ q. IsLent r)
  pub known : question r ≡ None → IfSome r.member (λ member. IsSome r.trying.loader.cached)
  -- no version is ready while no command is open
  pub rests : r.asked ≡ None → IsScanning r.trying.next

-- the call that it makes next
abbrev pub call_by : Reader → Option Question → Option Call
call_by r None = Some (trying.call_of r.trying)
call_by r (Some q) = read_call r.reading.course r.reading.course.stage

abbrev pub call_of : Reader → Option Call
call_of r = call_by r (question r)

-- where it tries a transition, it has tried it on the state that it knows, where that comes first
abbrev pub PreparesBy : Option Question → Reader → Reader → Type 0
PreparesBy None old new = (t : Trying) × trying.Prepares old.trying t × (new ≡ record old { trying = t })
PreparesBy (Some q) old new = new ≡ old

abbrev pub Prepares : Reader → Reader → Type 0
Prepares old new = PreparesBy (question old) old new

-- ---- the newest state

abbrev pub own_member : Reader → ℕ
own_member r = unwrap_or r.member 0

abbrev pub newest_number : Reader → ℕ
newest_number r = number_of r.trying.loader.cached

-- the member is shown otherwise than it was left
abbrev pub strange : Reader → Poll ReadAnswer
strange r = polls.Damaged (damages.Member (own_member r) (newest_number r))

-- ---- what becomes of a reader after a poll

abbrev pub member_after : Option ℕ → ReadAnswer → Option ℕ
member_after member (answers.Opened joined version since) = Some joined
member_after member (answers.Closed version) = None
member_after member (answers.Expired version) = None
member_after member _ = member

-- a listen that is told Early stands no longer, a snapshot leaves it as it is
abbrev pub listen_early : Option Asked → Option (Option ℕ) → Option (Option ℕ)
listen_early (Some (asks.Snapshot t)) listen = listen
listen_early _ listen = None

-- a step moves the listen to its end
abbrev pub listen_after : Option Asked → Option (Option ℕ) → ReadAnswer → Option (Option ℕ)
listen_after asked listen (answers.Step from to rows) = Some to
listen_after asked listen (answers.Early since) = listen_early asked listen
listen_after asked listen _ = listen

abbrev pub after_poll : Reader → Poll ReadAnswer → Reader
after_poll r polls.Busy = r
after_poll r polls.More = r
after_poll r polls.Fault = r
after_poll r (polls.Damaged damage) = record r { asked = None }
after_poll r polls.Spent = record r { asked = None }
after_poll r (polls.Done answer) = record r {
  asked = None;
  member = member_after r.member answer;
  listen = listen_after r.asked
      r.listen answer;
}

-- ---- what a reply to a call of a transition comes to

-- what is answered where a change that isn't a join is in
abbrev pub in_answer : Asked → ℕ → ReadAnswer
in_answer (asks.Advance to) version = answers.Advanced version
in_answer (asks.RenewReader now) version = answers.Renewed version
in_answer _ version = answers.Closed version

-- and where the member doesn't stand
abbrev pub gone_answer : Asked → ℕ → ReadAnswer
gone_answer (asks.Advance to) version = answers.Expired version
gone_answer (asks.RenewReader now) version = answers.Expired version
gone_answer _ version = answers.Closed version

-- what an open, a close, a renewal or an advance is answered
abbrev pub change_poll : Reader → Asked → Outcome → Poll ReadAnswer
change_poll r asked outcomes.Going = polls.More
change_poll r asked outcomes.Fault = polls.Fault
change_poll r asked outcomes.Spent = polls.Spent
change_poll r asked (outcomes.Damaged damage) = polls.Damaged damage
change_poll r asked (outcomes.Joined member version since) = polls.Done (answers.Opened member version since)
change_poll r asked (outcomes.Full version) = polls.Done (answers.MembersFull version)
change_poll r asked (outcomes.Committed version) = polls.Done (in_answer asked version)
change_poll r asked (outcomes.Gone version) = polls.Done (gone_answer asked version)
change_poll r asked (outcomes.Back since) = polls.Done (answers.Back since)
change_poll r asked (outcomes.Strange version) = strange r

abbrev pub verdict : Reader → Asked → Tried → Poll ReadAnswer
verdict r asked tried = change_poll r asked (outcome r.trying (own_member r) tried)

abbrev pub MovesAfterTry : Reader → Reply → Reader → Poll ReadAnswer → Type 0
MovesAfterTry old reply new poll =
    (t : Trying) × (tried : Tried) × (asked : Asked) × trying.Moves old.trying reply t tried × (old.asked ≡ Some asked) ×
    (poll ≡ verdict (record old { trying = t }) asked tried) × (new ≡ after_poll (record old { trying = t }) poll)

-- ---- what a reply to a call of a question comes to

-- one more call was made, and the question stands so
abbrev pub reading_on : Reader → Reading Question → Reader
reading_on r w = record r { trying = record r.trying { calls = trying.more r.trying.calls }; reading = w }

-- the newest state is the transition's again
abbrev pub given_back : Reader → Reader
given_back r = record r {
  trying = record r.trying { loader = r.reading.course.loader };
  reading = record r.reading { course = record r.reading.course { loader = unknown r.reading.course.loader.shard } };
}

-- where the question has ended
abbrev pub taken_back : Reader → Poll ReadAnswer → Reader
taken_back r polls.Busy = r
taken_back r polls.More = r
taken_back r polls.Fault = r
taken_back r _ = given_back r

abbrev pub MovesAfterRead : Reader → Reply → Reader → Poll ReadAnswer → Type 0
MovesAfterRead old reply new poll =
    (w : Reading Question) × readings.Moves asking old.reading reply w poll × (w.course.loader.shard ≡ shard_of old) ×
    (new ≡ after_poll (taken_back (reading_on old w) poll) poll)

abbrev pub MovesBy : Option Question → Reader → Reply → Reader → Poll ReadAnswer → Type 0
MovesBy None old reply new poll = MovesAfterTry old reply new poll
MovesBy (Some q) old reply new poll = MovesAfterRead old reply new poll

-- what a reply to its call comes to
abbrev pub Moves : Reader → Reply → Reader → Poll ReadAnswer → Type 0
Moves old reply new poll = MovesBy (question old) old reply new poll

-- ---- want of memory after a reply

-- what is left of it: the same call is to be made again, a Scan or a Get
abbrev pub WantsBy : Option Question → Reader → Reader → Type 0
WantsBy None old new = trying.IsScanning old.trying.next × (new ≡ record old { trying = trying.called old.trying })
WantsBy (Some q) old new = new ≡ reading_on old (record old.reading { course = counted old.reading.course })

abbrev pub Wants : Reader → Reader → Type 0
Wants old new = WantsBy (question old) old new
