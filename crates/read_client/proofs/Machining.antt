-- What holds of a reader as a machine that is polled.
use Rattle.std.proofs.Common.{◌≡◌, ◌≢◌, ℕ, true, false, Option, Some, None, List, ◌∷◌, ◌++◌, refl, sym, ap, subst, ◌∙◌, arith}
use Rattle.std.specs.Prelude.{IfSome, IsSome}
use Rattle.update_core.specs.declared.updates.Update.{Update}
use Rattle.store_core.specs.declared.calls.Call.{Call}
use Rattle.store_core.specs.declared.replies.Reply.{Reply}
use Rattle.store_core.specs.declared.replies.Reply.TheVariants as replies
use Rattle.store_core.specs.declared.entries.Entry.{Entry}
use Rattle.store_core.specs.Stores.{Stored}
use Rattle.store_core.specs.Newest.{mine_back}
use Rattle.history_core.specs.declared.asked.Asked.{Asked}
use Rattle.history_core.specs.declared.read_answers.ReadAnswer.{ReadAnswer}
use Rattle.history_core.specs.Discipline.{Allows}
use Rattle.load_core.specs.declared.polls.Poll.{Poll}
use Rattle.load_core.specs.declared.polls.Poll.TheVariants as polls
use Rattle.load_core.specs.declared.tryings.Trying.{Trying}
use Rattle.load_core.specs.Loading.{scan_of}
use Rattle.load_core.specs.Trying as trying
use Rattle.load_core.proofs.Outcomes.{scan_call}
use Rattle.load_core.proofs.Runs.{moves_same}
use Rattle.machine_core.specs.Machines.{Asking, CostPoll, Ending, GoesOn, IsReading, Keeps}
use Rattle.read_machine.specs.declared.readings.Reading.{Reading}
use Rattle.read_machine.specs.Courses.{counted}
use Rattle.read_machine.specs.Readings as readings
use Rattle.read_machine.proofs.Replied.{none_open}
use Rattle.read_client.specs.declared.questions.Question.{Question}
use Rattle.read_client.specs.declared.readers.Reader.{Reader}
use Rattle.read_client.specs.Asking.{asking}
use Rattle.read_client.specs.Machining.{Ended, Kept, kept, machine}
use Rattle.read_client.specs.Reading.{IsOpen, IsSound, Moves, MovesBy, Prepares, Wants, WantsBy, after_poll, call_by, call_of}
use Rattle.read_client.specs.Reading.{question, reading_on, shard_of, taken_back}
use Rattle.read_client.proofs.Calling.{tries_call, try_allowed, try_comes}
use Rattle.read_client.proofs.Costs.{cost_poll, few_calls}
use Rattle.read_client.proofs.Effects.{counted_more, did_of}
use Rattle.read_client.proofs.FollowsOn.{moved_on, wants_on}
use Rattle.read_client.proofs.Legality.{legal_step}
use Rattle.read_client.proofs.Preparing.{cost_prepared, next_of, over_prepared, prepared_on, readied}
use Rattle.read_client.proofs.Questioning.{read_keeps}
use Rattle.read_client.proofs.Sound.{kept_trying}
use Rattle.read_client.proofs.Waiting.{follows_spared, others_on}

pub not_open : (o : Option Asked) → o ≡ None → ¬ IsSome o
not_open o e is = let bad : false ≡ true =
    subst (λ (a : Option Asked). IsSome a) e is in cc

-- ---- preparing

prepares_kept : (old new : Reader) → Prepares old new → kept new ≡ kept old
prepares_kept old new p =
    let k = readied old new p in
    ap kept k.ready_is ∙ (λ i. record {
      asked = old.asked;
      member = old.member;
      listen = old.listen;
      shard = (k.loader i).shard;
      step =
          k.step i;
    })

prepares_calls : (old new : Reader) → Prepares old new → new.trying.calls ≡ old.trying.calls
prepares_calls old new p = let k = readied old new p in ap (λ (r : Reader). r.trying.calls) k.ready_is ∙ k.calls

-- ---- a reply

-- after a poll it is another that is the same, after the poll
record After (old new : Reader) (poll : Poll ReadAnswer) : Type 0 where
  pub with : Reader
  pub same : kept with ≡ kept old
  pub is : new ≡ after_poll with poll

after : (r new : Reader) (reply : Reply) (poll : Poll ReadAnswer) → Moves r reply new poll → After r new poll
after r new reply poll m = go (question r) m
  where
    back : (w : Reading Question) (at : w.course.loader.shard ≡ shard_of r) (p : Poll ReadAnswer) →
        kept (taken_back (reading_on r w) p) ≡ kept r
    back w at polls.Busy = refl
    back w at polls.More = refl
    back w at polls.Fault = refl
    back w at polls.Spent = λ i. record {
      asked = r.asked;
      member = r.member;
      listen = r.listen;
      shard = at i;
      step =
          r.trying.step;
    }
    back w at (polls.Damaged damage) = λ i. record {
      asked = r.asked;
      member = r.member;
      listen = r.listen;
      shard = at i;
      step =
          r.trying.step;
    }
    back w at (polls.Done answer) = λ i. record {
      asked = r.asked;
      member = r.member;
      listen = r.listen;
      shard = at i;
      step =
          r.trying.step;
    }

    go : (o : Option Question) → MovesBy o r reply new poll → After r new poll
    go None (t, tried, asked, moves, asked_is, told, now) =
        let same = moves_same r.trying t reply tried moves in
        record {
          with = record r { trying = t };
          same = λ i. record { asked = r.asked; member = r.member; listen = r.listen; shard = same.shard i; step = same.step i };
          is = now;
        }
    go (Some q) (w, moves, at, now) = record { with = taken_back (reading_on r w) poll; same = back w at poll; is = now }

-- while the command goes on
more_kept : (r new : Reader) (reply : Reply) (poll : Poll ReadAnswer) → Moves r reply new poll → GoesOn poll → kept new ≡ kept r
more_kept r new reply poll m on = let a = after r new reply poll m in ap kept a.is ∙ go poll on a.with ∙ a.same
  where
    go : (p : Poll ReadAnswer) → GoesOn p → (v : Reader) → kept (after_poll v p) ≡ kept v
    go polls.Busy o v = refl
    go polls.More o v = refl
    go polls.Fault o v = refl
    go polls.Spent o v = absurd o
    go (polls.Damaged d) o v = absurd o
    go (polls.Done answer) o v = absurd o

still_open : (r new : Reader) (reply : Reply) (poll : Poll ReadAnswer) → IsOpen r → Moves r reply new poll → GoesOn poll →
    IsOpen new
still_open r new reply poll o m on = subst (λ (k : Kept). IsSome k.asked) (sym (more_kept r new reply poll m on)) o

moved_shard : (r new : Reader) (reply : Reply) (poll : Poll ReadAnswer) → Moves r reply new poll → shard_of new ≡ shard_of r
moved_shard r new reply poll m =
    let a = after r new reply poll m in
    ap (λ (v : Reader). shard_of v) a.is ∙ ap (λ (t : Trying). t.loader.shard) (kept_trying a.with poll)
    ∙ ap (λ (k : Kept). k.shard) a.same

-- where it has ended with an answer
done_ended : (r new : Reader) (reply : Reply) (answer : ReadAnswer) → Moves r reply new (polls.Done answer) →
    Ended (kept r) answer new
done_ended r new reply answer m =
    let a = after r new reply (polls.Done answer) m in
    subst (λ (v : Reader). Ended (kept r) answer v) (sym a.is)
    (subst (λ (k : Kept). Ended k answer (after_poll a.with (polls.Done answer))) a.same
    (record { asked = refl; member = refl; listen = refl; shard = refl }))

busy_never : (r new : Reader) (reply : Reply) → IsSound r → ¬ Moves r reply new polls.Busy
busy_never r new reply s m = go (question r) m
  where
    go : (o : Option Question) → ¬ MovesBy o r reply new polls.Busy
    go None h = try_comes r new reply polls.Busy h
    go (Some q) (w, moves, at, now) = read_keeps.never_busy r.reading w reply s.reading moves

failed_fault : (r new : Reader) (reply : Reply) → IsSound r → Moves r reply new polls.Fault → reply ≡ replies.Failed
failed_fault r new reply s m = go (question r) m
  where
    go : (o : Option Question) → MovesBy o r reply new polls.Fault → reply ≡ replies.Failed
    go None h = try_comes r new reply polls.Fault h
    go (Some q) (w, moves, at, now) = read_keeps.fault_failed r.reading w reply s.reading moves

answered_more : (r new : Reader) (reply : Reply) → IsSound r → Moves r reply new polls.More → reply ≢ replies.Failed
answered_more r new reply s m = go (question r) m
  where
    go : (o : Option Question) → MovesBy o r reply new polls.More → reply ≢ replies.Failed
    go None h = try_comes r new reply polls.More h
    go (Some q) (w, moves, at, now) = read_keeps.more_answered r.reading w reply s.reading moves

-- the client may make its call
allowed : (client : ℕ) (r : Reader) (call : Call) (start : Stored) (es : List Entry) → Asking machine client r call start es →
    Allows (mine_back start es client) call
allowed client r call start es a = go (question r) refl
  where
    go : (o : Option Question) → question r ≡ o → Allows (mine_back start es client) call
    go None none = try_allowed r call (mine_back start es client) a.is_open a.ready none a.call_is a.follows.trying
    go (Some q) some = read_keeps.allowed client r.reading call start es (record {
      is_open = subst (λ (o : Option Question). IsSome o) (sym (a.ready.asks ∙ some)) refl;
      ready = a.ready.reading;
      call_is = let is = a.call_is in subst (λ (o : Option Question). call_by r o ≡ Some call) some is;
      follows = let h = a.follows.reading in
          subst (λ (o : Option Question). IfSome o (λ x. readings.Follows asking client r.reading start es)) some h;
    })

-- ---- want of memory

wants_kept : (r new : Reader) → Wants r new → kept new ≡ kept r
wants_kept r new w = go (question r) w
  where
    go : (q : Option Question) → WantsBy q r new → kept new ≡ kept r
    go None h = ap kept h.1
    go (Some q) h = ap kept h

wants_counted : (r new : Reader) → Wants r new → new.trying.calls ≡ trying.more r.trying.calls
wants_counted r new w = go (question r) w
  where
    go : (q : Option Question) → WantsBy q r new → new.trying.calls ≡ trying.more r.trying.calls
    go None h = ap (λ (v : Reader). v.trying.calls) h.1
    go (Some q) h = ap (λ (v : Reader). v.trying.calls) h

wants_reads : (r new : Reader) (call : Call) → IsSound r → Wants r new → call_of r ≡ Some call →
    IsReading call × (call_of new ≡ Some call)
wants_reads r new call s w call_is = go (question r) refl w
  where
    go : (q : Option Question) → question r ≡ q → WantsBy q r new → IsReading call × (call_of new ≡ Some call)
    go None none (idle, is) =
        let scan : call ≡ scan_of r.trying.loader = tries_call r call none call_is ∙ scan_call r.trying idle in
        let z : Reader = record r { trying = trying.called r.trying } in
        let next : call_of z ≡ Some (scan_of r.trying.loader) = ap (call_by z) none in
        (subst IsReading (sym scan) tt, ap (λ (v : Reader). call_of v) is ∙ next ∙ ap (λ (c : Call). Some c) (sym scan))
    go (Some q) some is =
        let x : Reading Question = record r.reading { course = counted r.reading.course } in
        let made = subst (λ (o : Option Question). call_by r o ≡ Some call) some call_is in
        let read = read_keeps.wanted_reads r.reading x call s.reading refl made in
        (read.0, ap (λ (v : Reader). call_of v) is ∙ ap (call_by (reading_on r x)) some ∙ read.1)

-- ---- what it costs

as_old : (base client : ℕ) (old ready new : Reader) (poll : Poll ReadAnswer) (start : Stored) (es : List Entry)
    (list : List Update) →
    Prepares old ready →
    CostPoll machine base client ready new poll start es list → CostPoll machine base client old new poll start es list
as_old base client old ready new polls.Busy start es list p h = h
as_old base client old ready new polls.More start es list p h = h
as_old base client old ready new polls.Fault start es list p h = h
as_old base client old ready new polls.Spent start es list p h = over_prepared base client old ready new start es list p h
as_old base client old ready new (polls.Damaged damage) start es list p h = over_prepared base client old ready new start es list
    p h
as_old base client old ready new (polls.Done answer) start es list p h = over_prepared base client old ready new start es list p h

-- ---- together

pub keeps : Keeps machine
keeps = record {
  prepared_kept = prepares_kept;
  prepared_calls = prepares_calls;
  prepared_open = λ old new p is. subst (λ (k : Kept). IsSome k.asked) (sym (prepares_kept old new p)) is;
  prepared_follows = prepared_on;
  prepared_cost = cost_prepared;
  others_follow = λ client r start others es of. others_on start client others es of r;
  spared_follows = λ client r start e others es closed spares. follows_spared client r start e others es
      (none_open r.asked closed);
  moved_kept = λ r new reply poll sound. more_kept r new reply poll;
  moved_open = λ r new reply poll sound. still_open r new reply poll;
  moved_shard = moved_shard;
  ended = done_ended;
  never_busy = busy_never;
  fault_failed = failed_fault;
  more_answered = answered_more;
  counted = counted_more;
  effect = did_of;
  allowed = allowed;
  follows = λ client r new call poll list start e others es a c m.
      moved_on start list client r e others es a.is_open a.ready (a.call_is
      ∙ ap (λ (q : Call). Some q) (sym c.call_is)) c.own c.of_others
      c.stands c.lawful a.follows new poll m;
  legal = λ client r new call poll list start e others es a c m.
      legal_step client r new poll list start e others es a.is_open a.ready a.follows c.own (a.call_is
      ∙ ap (λ (q : Call). Some q) (sym c.call_is))
      c.of_others c.stands c.lawful m;
  cost = λ base client old ready new call poll list start e others es least p a c m at.
      as_old base client old ready new poll start (e ∷ (others ++ es)) list p
      (cost_poll base client ready list start e others es least a.is_open a.ready (a.call_is
      ∙ ap (λ (q : Call). Some q) (sym c.call_is)) a.follows
      c.own c.of_others c.stands c.lawful new poll (next_of old ready p) at m);
  wanted_kept = wants_kept;
  wanted_counted = wants_counted;
  wanted_open = λ r new w is. subst (λ (k : Kept). IsSome k.asked) (sym (wants_kept r new w)) is;
  wanted_reads = wants_reads;
  wanted_follows = λ client r new call list start e others es a c w.
      wants_on start list client r e others es a.is_open a.ready (a.call_is
      ∙ ap (λ (q : Call). Some q) (sym c.call_is)) c.own c.of_others
      c.stands c.lawful a.follows new w;
}

pub ending : Ending machine
ending = record {
  more_begins = λ k call reply did. did.effect;
  spent_shown = λ k call reply did. did.shown tt;
  few = λ client r start es list is sound follows low at failed foreign. let n =
      few_calls client r start es list sound follows low at failed foreign in omega arith;
}
