-- A reader is sound after its next call is prepared and after what a reply comes to.
use Rattle.std.proofs.Common.{◌≡◌, ℕ, true, false, Option, Some, None, Result, ◌⊎◌, inl, inr, refl, sym, ap, subst, ◌∙◌}
use Rattle.std.specs.Prelude.{⊤, IsSome, IfSome}
use Rattle.store_core.specs.declared.shards.ShardId.{ShardId}
use Rattle.store_core.specs.declared.replies.Reply.{Reply}
use Rattle.state_core.specs.declared.refusals.Refusal.{Refusal}
use Rattle.state_core.specs.declared.transitions.Transition.{Transition}
use Rattle.state_core.specs.States.{ShardState}
use Rattle.history_core.specs.declared.asked.Asked.{Asked}
use Rattle.history_core.specs.declared.read_answers.ReadAnswer.{ReadAnswer}
use Rattle.load_core.specs.declared.damages.Damage.{Damage}
use Rattle.load_core.specs.declared.nexts.Next.{Next}
use Rattle.load_core.specs.declared.nexts.Next.TheVariants as nexts
use Rattle.load_core.specs.declared.polls.Poll.{Poll}
use Rattle.load_core.specs.declared.polls.Poll.TheVariants as polls
use Rattle.load_core.specs.declared.readies.Ready.{Ready}
use Rattle.load_core.specs.declared.tries.Tried.{Tried}
use Rattle.load_core.specs.declared.tries.Tried.TheVariants as tries
use Rattle.load_core.specs.declared.tryings.Trying.{Trying}
use Rattle.load_core.specs.Loading.{newest_after}
use Rattle.load_core.specs.Trying as trying
use Rattle.load_core.proofs.Outcomes.{HowMoved, scanned as try_scanned, failed as try_failed, cased as try_cased, how_moved}
use Rattle.load_core.proofs.Runs.{moves_same}
use Rattle.load_core.proofs.TryFacts.{prepares_is, seen_on}
use Rattle.change_core.proofs.Forms.{committed_as, refused_as}
use Rattle.read_machine.specs.declared.readings.Reading.{Reading}
use Rattle.read_machine.specs.Courses.{counted}
use Rattle.read_machine.specs.Readings as readings
use Rattle.machine_core.specs.Machines.{GoesOn}
use Rattle.read_machine.proofs.Replied.{ended_none, more_kept as read_kept, read_stays, sound_by}
use Rattle.read_machine.proofs.Sound.{Ends}
use Rattle.read_machine.proofs.Ways.{Stays}
use Rattle.read_client.specs.declared.questions.Question.{Question}
use Rattle.read_client.specs.declared.readers.Reader.{Reader}
use Rattle.read_client.specs.Asking.{asking}
use Rattle.read_client.specs.Reading.{AsksAs, IsLent, IsOpen, IsSound, Moves, MovesAfterRead, MovesAfterTry, MovesBy, Wants}
use Rattle.read_client.specs.Reading.{WantsBy, after_poll, change_poll, given_back, own_member, question, reading_on, taken_back}
use Rattle.read_client.specs.Reading.{verdict}

-- nothing is asked of a closed reader
pub no_open : (r : Reader) → IsOpen r → r.asked ≡ None → ⊥
no_open r some e = let bad : false ≡ true = subst (λ (a : Option Asked). IsSome a) e some in cc

-- a reader is sound with a transition of the same shard, step and knowledge in its place, where it asks no question
pub with_trying : (old : Reader) (t : Trying) → IsOpen old → IsSound old → question old ≡ None → trying.IsSound t →
    t.loader.shard ≡ old.trying.loader.shard → t.step ≡ old.trying.step → (IsSome old.trying.loader.cached →
    IsSome t.loader.cached) →
    IsSound (record old { trying = t })
with_trying old t is_open s none sound shard step cached = record {
  trying = sound;
  reading = s.reading;
  asked = asks old.asked s.asked;
  asks = s.asks;
  lent = subst (λ (q : Option Question). IfSome q (λ q. IsLent (record old { trying = t }))) (sym none) tt;
  known = λ e. knows old.member (s.known e);
  rests = λ e. absurd (no_open old is_open e);
}
  where
    asks : (a : Option Asked) → IfSome a (λ asked. AsksAs old.trying.loader.shard old.member old.trying.step old.listen asked) →
        IfSome a (λ asked. AsksAs t.loader.shard old.member t.step old.listen asked)
    asks None h = h
    asks (Some asked) h = subst (λ (x : Transition). AsksAs t.loader.shard old.member x old.listen asked) (sym step) (subst (λ
        (d : ShardId). AsksAs d old.member old.trying.step old.listen asked) (sym shard) h)

    knows : (m : Option ℕ) → IfSome m (λ member. IsSome old.trying.loader.cached) → IfSome m (λ member. IsSome t.loader.cached)
    knows None h = h
    knows (Some member) h = cached h

pub prepared_sound : (old : Reader) (t : Trying) → IsOpen old → IsSound old → question old ≡ None → trying.Prepares old.trying t →
    trying.IsSound t → IsSound (record old { trying = t })
prepared_sound old t is_open s none p sound =
    let is = prepares_is old.trying t p in
    with_trying old t is_open s none sound (ap (λ (z : Trying). z.loader.shard) is) (ap (λ (z : Trying). z.step) is)
    (λ some. subst (λ (z : Trying). IsSome z.loader.cached) (sym is) some)

-- a transition of which no version is ready is sound
pub idle_sound : (t : Trying) (next : Next) → trying.IsScanning next → t.next ≡ next → trying.IsSound t
idle_sound t nexts.Attempt h e = subst (λ (n : Next). trying.IsReadyNext t.loader t.step n) (sym e) tt
idle_sound t nexts.Scan h e = subst (λ (n : Next). trying.IsReadyNext t.loader t.step n) (sym e) tt
idle_sound t (nexts.Cas r) h e = absurd h

-- ---- a command that has ended

pub kept_trying : (r : Reader) (poll : Poll ReadAnswer) → (after_poll r poll).trying ≡ r.trying
kept_trying r polls.Busy = refl
kept_trying r polls.More = refl
kept_trying r polls.Fault = refl
kept_trying r (polls.Damaged damage) = refl
kept_trying r polls.Spent = refl
kept_trying r (polls.Done answer) = refl

pub kept_reading : (r : Reader) (poll : Poll ReadAnswer) → (after_poll r poll).reading ≡ r.reading
kept_reading r polls.Busy = refl
kept_reading r polls.More = refl
kept_reading r polls.Fault = refl
kept_reading r (polls.Damaged damage) = refl
kept_reading r polls.Spent = refl
kept_reading r (polls.Done answer) = refl

pub if_any : {T : Type 0} (o : Option T) (P : Type 0) → P → IfSome o (λ x. P)
if_any None P p = tt
if_any (Some x) P p = p

pub ended_sound : (mid : Reader) (poll : Poll ReadAnswer) → Ends poll → trying.IsSound mid.trying →
    readings.IsSound asking mid.reading →
    mid.reading.asked ≡ None → IfSome mid.member (λ member. IsSome mid.trying.loader.cached) →
    ((answer : ReadAnswer) → poll ≡ polls.Done answer → IsSome mid.trying.loader.cached) → trying.IsScanning mid.trying.next →
    IsSound (after_poll mid poll)
ended_sound mid polls.Busy ends t g none known some idle = absurd ends
ended_sound mid polls.More ends t g none known some idle = absurd ends
ended_sound mid polls.Fault ends t g none known some idle = absurd ends
ended_sound mid (polls.Damaged damage) ends t g none known some idle = record {
  trying = t;
  reading = g;
  asked = tt;
  asks = none;
  lent = tt;
  known = λ e. known;
  rests = λ e. idle;
}
ended_sound mid polls.Spent ends t g none known some idle = record {
  trying = t;
  reading = g;
  asked = tt;
  asks = none;
  lent = tt;
  known = λ e. known;
  rests = λ e. idle;
}
ended_sound mid (polls.Done answer) ends t g none known some idle = record {
  trying = t;
  reading = g;
  asked = tt;
  asks = none;
  lent = tt;
  known = λ e. if_any (after_poll mid (polls.Done answer)).member (IsSome mid.trying.loader.cached) (some answer refl);
  rests = λ e. idle;
}

pub committed_ends : (r : Reader) (asked : Asked) (version : ℕ) → Ends (verdict r asked (tries.Committed version))
committed_ends r asked version = committed_as (λ o. Ends (change_poll r asked o)) r.trying.loader.cached r.trying.step version tt
    tt

pub refused_ends : (r : Reader) (asked : Asked) (refusal : Refusal) → Ends (verdict r asked (tries.Refused refusal))
refused_ends r asked refusal = refused_as (λ o. Ends (change_poll r asked o)) r.trying.loader.cached
    (own_member r) r.trying.step refusal tt
    (λ v. tt) (λ v. tt) (λ v. tt) (λ v. tt)

-- ---- a transition

-- no command goes on after these
abbrev pub IsOver : Tried → Type 0
IsOver tries.Begun = ⊥
IsOver tries.Again = ⊥
IsOver tries.Goes = ⊥
IsOver tries.Fault = ⊥
IsOver _ = ⊤

-- a transition that is over knows a state, unless it was damaged, and nothing is ready
pub record Over (t : Trying) (tried : Tried) : Type 0 where
  pub idle : trying.IsScanning t.next
  pub known : IsSome t.loader.cached ⊎ ((damage : Damage) × (tried ≡ tries.Damaged damage))

over_after : (old : Trying) (reply : Reply) (t : Trying) (tried : Tried) → IsOver tried → trying.Moves old reply t tried →
    Over t tried
over_after old reply t tried over moves = go (how_moved old t reply tried moves)
  where
    by : (z : Trying) → t ≡ z → Over z tried → Over t tried
    by z e h = subst (λ (y : Trying). Over y tried) (sym e) h

    comes : (r : Result (Option ShardState) Damage) (k : Tried) → tried ≡ k → IsOver k →
        trying.ComesTo r (trying.called old) t k → Over t tried
    comes r tries.Goes e o m = absurd o
    comes r (tries.Refused refusal) e o (s, reads, refused, now) = by (trying.holding (trying.called old)
        (Some s) nexts.Scan) now (record { idle = tt; known = inl refl })
    comes r tries.Spent e o (s, reads, free, last, now) = by (trying.holding (trying.called old) (Some s) nexts.Scan) now
        (record { idle = tt; known = inl refl })
    comes r (tries.Damaged damage) e o (reads, now) = by (trying.called old) now (record { idle = tt; known = inr (damage, e) })
    comes r (tries.Committed version) e o m = absurd m
    comes r tries.Begun e o m = absurd m
    comes r tries.Again e o m = absurd m
    comes r tries.Fault e o m = absurd m

    cas : (rd : Ready) (k : Tried) → tried ≡ k → IsOver k → trying.MovesAfterCas (trying.asked
        (trying.called old) rd) rd reply t k → Over t tried
    cas rd (tries.Committed version) e o (answer, some, now) = by (trying.holding (trying.asked (trying.called old) rd)
        (Some rd.after) nexts.Scan) now (record { idle = tt; known = inl refl })
    cas rd tries.Begun e o m = absurd o
    cas rd tries.Again e o m = absurd o
    cas rd tries.Fault e o m = absurd o
    cas rd tries.Goes e o m = absurd m
    cas rd (tries.Refused refusal) e o m = absurd m
    cas rd tries.Spent e o m = absurd m
    cas rd (tries.Damaged damage) e o m = absurd m

    go : HowMoved old t reply tried → Over t tried
    go (try_scanned vs idle answer m) = comes (newest_after old.loader.shard old.loader.cached vs) tried refl over m
    go (try_failed idle answer is now) = absurd (subst IsOver is over)
    go (try_cased rd next m) = cas rd tried refl over m

-- what a verdict comes to, by what was tried
pub verdict_ends : (r : Reader) (asked : Asked) (tried : Tried) → IsOver tried → Ends (verdict r asked tried)
verdict_ends r asked (tries.Committed version) o = committed_ends r asked version
verdict_ends r asked (tries.Refused refusal) o = refused_ends r asked refusal
verdict_ends r asked tries.Spent o = tt
verdict_ends r asked (tries.Damaged damage) o = tt
verdict_ends r asked tries.Begun o = absurd o
verdict_ends r asked tries.Again o = absurd o
verdict_ends r asked tries.Goes o = absurd o
verdict_ends r asked tries.Fault o = absurd o

try_sound : (old new : Reader) (reply : Reply) (poll : Poll ReadAnswer) → IsOpen old → IsSound old → trying.IsSound new.trying →
    question old ≡ None → MovesAfterTry old reply new poll → IsSound new
try_sound old new reply poll is_open s sound none (t, tried, asked, moves, asked_is, poll_is, new_is) =
    let P : Poll ReadAnswer → Type 0 = λ p. IsSound (after_poll mid p) in
    subst IsSound (sym new_is) (subst P (sym poll_is) (by tried refl))
  where
    mid : Reader
    mid = record old { trying = t }

    t_sound : trying.IsSound t
    t_sound = subst trying.IsSound (kept_trying (record old { trying = t }) poll) (subst (λ
        (r : Reader). trying.IsSound r.trying) new_is sound)

    goes : IsSound (record old { trying = t })
    goes = let same = moves_same old.trying t reply tried moves in with_trying old t is_open s none t_sound same.shard same.step
        (seen_on old.trying t reply tried moves)

    known : (m : Option ℕ) → IfSome m (λ member. IsSome old.trying.loader.cached) → IfSome m (λ member. IsSome t.loader.cached)
    known None h = h
    known (Some member) h = seen_on old.trying t reply tried moves h

    over : (k : Tried) → tried ≡ k → IsOver k → ((answer : ReadAnswer) →
        verdict (record old { trying = t }) asked k ≡ polls.Done answer → IsSome t.loader.cached) →
        IsSound (after_poll (record old { trying = t }) (verdict (record old { trying = t }) asked k))
    over k e o some = ended_sound (record old { trying = t }) (verdict (record old { trying = t }) asked k) (verdict_ends
        (record old { trying = t }) asked k o) t_sound s.reading (s.asks
        ∙ none) (known old.member (s.known none)) some (over_after old.trying reply t tried (subst IsOver (sym e) o) moves).idle

    cached : (k : Tried) → tried ≡ k → IsOver k → ((damage : Damage) → k ≡ tries.Damaged damage → ⊥) → IsSome t.loader.cached
    cached k e o not_damaged = elim ((over_after old.trying reply t tried (subst IsOver
        (sym e) o) moves).known) [ inl h ↦ h | inr h ↦ absurd (not_damaged h.0 (sym e ∙ h.1)) ]

    by : (k : Tried) → tried ≡ k → IsSound (after_poll (record old { trying = t }) (verdict (record old { trying = t }) asked k))
    by tries.Begun e = goes
    by tries.Again e = goes
    by tries.Goes e = goes
    by tries.Fault e = goes
    by (tries.Committed version) e = over (tries.Committed version) e tt (λ answer h. cached (tries.Committed version) e tt
        (λ damage f. let bad : tries.Committed version ≡ tries.Damaged damage = f in cc))
    by (tries.Refused refusal) e = over (tries.Refused refusal) e tt (λ answer h. cached (tries.Refused refusal) e tt
        (λ damage f. let bad : tries.Refused refusal ≡ tries.Damaged damage = f in cc))
    by tries.Spent e = over tries.Spent e tt (λ answer h. cached tries.Spent e tt
        (λ damage f. let bad : tries.Spent ≡ tries.Damaged damage = f in cc))
    by (tries.Damaged damage) e = over (tries.Damaged damage) e tt (λ answer h. absurd
        (let bad : polls.Damaged damage ≡ polls.Done answer = h in cc))

-- ---- a question

-- the question goes on
lent_sound : (old : Reader) (q : Question) (w : Reading Question) → IsOpen old → IsSound old → question old ≡ Some q →
    IsLent old →
    readings.IsSound asking w → w.asked ≡ old.reading.asked → w.course.member ≡ old.reading.course.member →
    w.course.loader.shard ≡ old.reading.course.loader.shard → w.course.calls ≡ trying.more old.reading.course.calls →
    IsSound (reading_on old w)
lent_sound old q w is_open s ask lent g asked member shard calls = record {
  trying = idle_sound (reading_on old w).trying old.trying.next lent.idle refl;
  reading = g;
  asked = s.asked;
  asks = asked ∙ s.asks;
  lent = subst (λ (o : Option Question). IfSome o (λ x. IsLent (reading_on old w))) (sym ask) (record {
    member = lent.member ∙ ap Some (sym member);
    shard = shard ∙ lent.shard;
    calls = calls ∙ ap trying.more lent.calls;
    idle = lent.idle;
  });
  known = λ none. absurd (let bad : Some q ≡ None = sym ask ∙ none in cc);
  rests = λ none. absurd (no_open old is_open none);
}

pub lent_by : (old : Reader) (q : Question) → IsSound old → question old ≡ Some q → IsLent old
lent_by old q s ask = let h = s.lent in subst (λ (o : Option Question). IfSome o (λ x. IsLent old)) ask h

read_sound : (old new : Reader) (q : Question) (reply : Reply) (poll : Poll ReadAnswer) → IsOpen old → IsSound old →
    question old ≡ Some q →
    readings.IsSound asking new.reading → MovesAfterRead old reply new poll → IsSound new
read_sound old new q reply poll is_open s ask g (w, moves, shard, e) = subst IsSound (sym e) (by poll refl)
  where
    stays : Stays (counted old.reading.course) w.course
    stays = read_stays asking old.reading w reply poll moves

    lent : IsLent old
    lent = lent_by old q s ask

    some : IsSome w.course.loader.cached
    some = stays.known (sound_by asking old.reading q (s.asks ∙ ask) s.reading).known

    g_of : (p : Poll ReadAnswer) → poll ≡ p → readings.IsSound asking (after_poll (taken_back (reading_on old w) p) p).reading
    g_of p is = subst (λ (r : Reader). readings.IsSound asking r.reading)
        (e ∙ ap (λ (y : Poll ReadAnswer). after_poll (taken_back (reading_on old w) y) y) is) g

    goes : (p : Poll ReadAnswer) → poll ≡ p → GoesOn p → readings.IsSound asking w → IsSound (reading_on old w)
    goes p is on held = lent_sound old q w is_open s ask lent held
        (ap (λ (k : readings.ReadKept Question). k.asked) (read_kept asking old.reading w reply poll moves (subst GoesOn
        (sym is) on)))
        stays.member stays.shard stays.calls

    over : (p : Poll ReadAnswer) → poll ≡ p → Ends p → readings.IsSound asking (given_back (reading_on old w)).reading →
        IsSound (after_poll (given_back (reading_on old w)) p)
    over p is ends held = ended_sound (given_back (reading_on old w)) p ends
        (idle_sound (given_back (reading_on old w)).trying old.trying.next lent.idle refl) held
        (ended_none asking old.reading w reply poll moves (subst Ends (sym is) ends))
        (if_any old.member (IsSome w.course.loader.cached) some) (λ answer h. some) lent.idle

    by : (p : Poll ReadAnswer) → poll ≡ p → IsSound (after_poll (taken_back (reading_on old w) p) p)
    by polls.Busy is = goes polls.Busy is tt (g_of polls.Busy is)
    by polls.More is = goes polls.More is tt (g_of polls.More is)
    by polls.Fault is = goes polls.Fault is tt (g_of polls.Fault is)
    by polls.Spent is = over polls.Spent is tt (g_of polls.Spent is)
    by (polls.Damaged damage) is = over (polls.Damaged damage) is tt (g_of (polls.Damaged damage) is)
    by (polls.Done answer) is = over (polls.Done answer) is tt (g_of (polls.Done answer) is)

-- after each reply
moved_sound : (old new : Reader) (reply : Reply) (poll : Poll ReadAnswer) → IsOpen old → IsSound old → trying.IsSound new.trying →
    readings.IsSound asking new.reading → Moves old reply new poll → IsSound new
moved_sound old new reply poll is_open s t g moves = go (question old) refl moves
  where
    go : (o : Option Question) → question old ≡ o → MovesBy o old reply new poll → IsSound new
    go None e m = try_sound old new reply poll is_open s t e m
    go (Some q) e m = read_sound old new q reply poll is_open s e g m

-- after want of memory
pub wants_sound : (old new : Reader) → IsOpen old → IsSound old → readings.IsSound asking new.reading → Wants old new →
    IsSound new
wants_sound old new is_open s g w = go (question old) refl w
  where
    go : (o : Option Question) → question old ≡ o → WantsBy o old new → IsSound new
    go None e m = subst IsSound (sym m.1) (with_trying old (trying.called old.trying) is_open s e tt refl refl (λ some. some))
    go (Some q) e m = subst IsSound (sym m) (lent_sound old q
        (record old.reading { course = counted old.reading.course }) is_open s e
        (lent_by old q s e) (subst (λ (r : Reader). readings.IsSound asking r.reading) m g) refl refl refl refl)

-- after it has settled by a poll
pub settled_sound : (old mid new : Reader) (reply : Reply) (poll : Poll ReadAnswer) → IsOpen old → IsSound old →
    trying.IsSound mid.trying →
    readings.IsSound asking mid.reading → Moves old reply (after_poll mid poll) poll → new ≡ after_poll mid poll → IsSound new
settled_sound old mid new reply poll is_open s t g moves e =
    subst IsSound (sym e) (moved_sound old (after_poll mid poll) reply poll is_open s (subst trying.IsSound (sym
    (kept_trying mid poll)) t)
    (subst (λ (w : Reading Question). readings.IsSound asking w) (sym (kept_reading mid poll)) g) moves)
