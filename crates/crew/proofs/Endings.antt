-- What a poll tells a worker that writes, and what it goes on with.
use Rattle.std.proofs.Common.{◌≡◌, ℕ, ◌+◌, ◌-◌, ◌^◌, ◌<◌, ◌≤◌, min, true, false, Option, Some, None, List, []}
use Rattle.std.proofs.Common.{◌++◌, length, inl, inr, refl, sym}
use Rattle.std.proofs.Common.{ap, subst, ◌∙◌, arith, append_assoc}
use Rattle.std.specs.Prelude.{IfSome, IsSome, IsSomeAnd, reverse}
use Rattle.update_core.specs.declared.updates.Update.{Update}
use Rattle.update_core.specs.declared.appends.FeedAppend.{FeedAppend}
use Rattle.store_core.specs.declared.shards.ShardId.{ShardId}
use Rattle.store_core.specs.declared.entries.Entry.{Entry}
use Rattle.store_core.specs.Histories.{History}
use Rattle.store_core.specs.Stores.{Stored}
use Rattle.store_core.specs.Ports.{with_entries}
use Rattle.history_core.specs.declared.asked.Asked.{Asked}
use Rattle.history_core.specs.declared.asked.Asked.TheVariants as asks
use Rattle.history_core.specs.declared.write_answers.WriteAnswer.{WriteAnswer}
use Rattle.history_core.specs.declared.write_answers.WriteAnswer.TheVariants as answers
use Rattle.history_core.specs.Discipline.{Lawful}
use Rattle.history_core.specs.Legal.{Command, LegalOfWriter, LegalWriteAt, LegalWriteBack, entries_of}
use Rattle.history_core.specs.Stands.{StandsFor}
use Rattle.history_core.proofs.LawfulLaws.{turned}
use Rattle.history_core.proofs.Prefixes.{prefix_lawful}
use Rattle.load_core.specs.declared.polls.Poll.{Poll}
use Rattle.load_core.specs.declared.polls.Poll.TheVariants as polls
use Rattle.load_core.specs.Fronts.{Backwards, WhereLawful}
use Rattle.machine_core.specs.Polling.{LegalWhere, Polled}
use Rattle.update_core.specs.Limits.{most}
use Rattle.write_client.specs.declared.writers.Writer.{Writer}
use Rattle.write_client.specs.Machining.{Kept, Legal, command_in, kept, machine}
use Rattle.write_client.specs.Writing.{IsOpen, shard_of}
use Rattle.appends_core.specs.Feeds.{end_of_feed}
use Rattle.crew_core.specs.KeepingOn.{KeepsOn}
use Rattle.crew_core.specs.Working.{IsWorkersEntry, as_writer}
use Rattle.crew.specs.declared.writing.WriterWorker.{WriterWorker}
use Rattle.crew.specs.Ends.{AsksAt, IsAnswered, Once, Reached, UpperIs, WasAnswered}
use Rattle.crew.specs.Writing.{IsGoing, IsPlaceOf, IsTold, PlaceMeans}
use Rattle.crew.proofs.Among.{ends_last}
use Rattle.crew.proofs.Reaching.{mismatch_reaches, ok_reaches}

-- ---- over fronts

pub where_map : (shard : ShardId) (front : Option History) (P Q : History → List Update → Type 0) →
    ((h : History) (list : List Update) → StandsFor h.start shard list → Lawful h → P h list → Q h list) →
    WhereLawful shard front P → WhereLawful shard front Q
where_map shard None P Q f p = tt
where_map shard (Some h) P Q f p = λ list st l. f h list st l (p list st l)

-- what held at some place of a front held at some place of what it has grown to
pub once_on : (P : Stored → List Entry → List Update → Type 0) (start : Stored) (more es : List Entry) (list : List Update) →
    Once P start es list → Once P start (more ++ es) list
once_on P start more es list k = record {
  newer = more ++ k.newer;
  older = k.older;
  split = ap (λ (xs : List Entry). more ++ xs) k.split ∙ sym (append_assoc more k.newer k.older);
  holds = k.holds;
}

pub once_with : (P : Stored → List Entry → List Update → Type 0) (shard : ShardId) (h : History) (more : List Entry) →
    WhereLawful shard (Some h) (Backwards (Once P)) → WhereLawful shard (Some (with_entries h more)) (Backwards (Once P))
once_with P shard h more p = λ list st l.
    subst (λ (es : List Entry). Once P h.start es list) (sym (turned h more))
    (once_on P h.start (reverse more) (reverse h.trail) list (p list st (prefix_lawful h more l)))

pub once_keeps : (P : Stored → List Entry → List Update → Type 0) (Q : Stored → List Entry → Entry → Type 0) (shard at : ShardId)
    (client : ℕ) (front now : Option History) → KeepsOn Q at client front now →
    WhereLawful shard front (Backwards (Once P)) → WhereLawful shard now (Backwards (Once P))
once_keeps P Q shard at client None now k p = subst (λ (f : Option History). WhereLawful shard f (Backwards (Once P))) (sym k) tt
once_keeps P Q shard at client (Some h) now (more, is, keeps) p =
    subst (λ (f : Option History). WhereLawful shard f (Backwards (Once P))) (sym is) (once_with P shard h more p)

-- what holds at the end of a front holds at some place of it
pub once_here : (P : Stored → List Entry → List Update → Type 0) (shard : ShardId) (front : Option History) →
    WhereLawful shard front (Backwards P) → WhereLawful shard front (Backwards (Once P))
once_here P shard front p = where_map shard front (Backwards P) (Backwards (Once P))
    (λ h list st l k. record { newer = []; older = reverse h.trail; split = refl; holds = k }) p

-- ---- what a poll tells

module _ (appends : List FeedAppend) (place : ℕ) (shard : ShardId) (client : ℕ) (front now : Option History) (old new : Writer)
    (of_shard : shard_of old ≡ shard) (asked : IfSome old.asked (AsksAt appends place)) (opened : IsOpen old) where
  answered : (answer : WriteAnswer) (calls : ℕ) → calls < most →
      WhereLawful (shard_of old) now (Backwards (λ start es list. calls < most → Legal client (kept old) calls answer start es list)) →
      WhereLawful shard now (Backwards (IsAnswered appends place shard client answer))
  answered answer calls few legal =
      subst (λ (s : ShardId). WhereLawful s now (Backwards (IsAnswered appends place shard client answer))) of_shard
      (where_map (shard_of old) now (Backwards (λ start es list. calls < most → Legal client (kept old) calls answer start es list))
      (Backwards (IsAnswered appends place shard client answer))
      (λ h list st l k. by old.asked refl opened asked h.start (reverse h.trail) list (k few)) legal)
    where
      by : (a : Option Asked) → old.asked ≡ a → IsSome a → IfSome a (AsksAt appends place) → (start : Stored) (es : List Entry)
          (list : List Update) → IfSome old.asked (λ b. LegalWriteBack list start es (command_in client (kept old) b calls) answer) →
          IsAnswered appends place shard client answer start es list
      by None e o m start es list k = absurd (let bad : false ≡ true = o in cc)
      by (Some a) e o m start es list k = record {
        command = command_in client (kept old) a calls;
        client_is = refl;
        shard_is = of_shard;
        may = m;
        legal = subst (λ (b : Option Asked). IfSome b (λ b. LegalWriteBack list start es (command_in client (kept old) b calls) answer))
            e k;
      }

-- the worker with another writer
abbrev pub with_writer : WriterWorker → Writer → WriterWorker
with_writer w new = record w { writer = new }

-- what is asked goes on
same_asked : (old new : Writer) → kept new ≡ kept old → new.asked ≡ old.asked
same_asked old new e = ap (λ (k : Kept). k.asked) e

pub told_of : (w : WriterWorker) (client : ℕ) (front now : Option History) (new : Writer) (poll : Poll WriteAnswer) →
    shard_of w.writer ≡ w.shard → IfSome w.writer.asked (AsksAt w.appends.now w.place) → IsOpen w.writer →
    PlaceMeans w.appends.now w.shard w.place front → new.storing.trying.calls < most →
    Polled machine client front now w.writer new poll → LegalWhere machine client now w.writer new poll →
    KeepsOn (IsWorkersEntry (as_writer w.appends.now) w.shard) w.shard client front now → IsTold client now (with_writer w new) poll
told_of w client front now new poll of_shard asked opened reached few polled legal keeps = by poll polled legal
  where
    there : PlaceMeans w.appends.now w.shard w.place now
    there past some =
        once_keeps (UpperIs w.shard (end_of_feed w.appends.now)) (IsWorkersEntry (as_writer w.appends.now) w.shard) w.shard w.shard client front
        now keeps (reached past some)

    going : new.asked ≡ w.writer.asked → IsGoing (with_writer w new) now
    going same = record {
      opened = subst (λ (o : Option Asked). IsSome o) (sym same) opened;
      asked = subst (λ (o : Option Asked). IfSome o (AsksAt w.appends.now w.place)) (sym same) asked;
      reached = there;
    }

    by : (p : Poll WriteAnswer) → Polled machine client front now w.writer new p → LegalWhere machine client now w.writer new p →
        IsTold client now (with_writer w new) p
    by polls.Busy k l = let (s, p, e) = k.1 in going (ap (λ (v : Writer). v.asked) e)
    by polls.More k l = going (same_asked w.writer new (k.stays tt).0)
    by polls.Fault k l = tt
    by (polls.Damaged damage) k l = tt
    by polls.Spent k l = tt
    by (polls.Done answer) k l = record {
      legal = answered w.appends.now w.place w.shard client front now w.writer new of_shard asked opened answer new.storing.trying.calls
          few l;
      reached = there;
    }

-- ---- where it goes on

no_and : (o : Option ℕ) → IsSomeAnd o (λ m. ⊥) → ⊥
no_and None k = k
no_and (Some m) k = k

some_and : (o : Option ℕ) (P : ℕ → Type 0) → IsSomeAnd o P → (m : ℕ) × P m
some_and None P k = absurd k
some_and (Some m) P k = (m, k)

module _ (appends : List FeedAppend) (place : ℕ) (shard : ShardId) (list : List Update) (start : Stored) (es : List Entry) where
  -- after Ok at the last append the upper is at the feed's end
  ok_at_end : length appends ≤ place + 1 → (c : Command) → c.shard ≡ shard → (a : Asked) → AsksAt appends place a →
      LegalWriteAt list start c (entries_of c es) a answers.Ok → Once (UpperIs shard (end_of_feed appends)) start es list
  ok_at_end next c of (asks.Append rows expected new) (b, at, rows_are, expected_is, new_is) legal =
      let end : end_of_feed appends ≡ b.upper = ends_last (Some 0) appends place b at.within at.there next in
      let (m, q) = some_and c.member (λ (m : ℕ).
      LegalOfWriter list start c.shard m (entries_of c es) (asks.Append rows expected new) answers.Ok) legal in
      subst (λ (u : Option ℕ). Once (UpperIs shard u) start es list) (new_is ∙ sym end)
      (subst (λ (s : ShardId). Once (UpperIs s new) start es list) of
      (ok_reaches list start c.shard c.client c.calls m es rows expected new q))
  ok_at_end next c of (asks.OpenWriter d) at legal = absurd (no_and c.member legal)
  ok_at_end next c of asks.CloseWriter at legal = absurd (no_and c.member legal)
  ok_at_end next c of other at legal = absurd at

  -- and a mismatch tells the upper
  mismatch_at : (upper : Option ℕ) (c : Command) → c.shard ≡ shard → (a : Asked) → AsksAt appends place a →
      LegalWriteAt list start c (entries_of c es) a (answers.Mismatch upper) → Once (UpperIs shard upper) start es list
  mismatch_at upper c of (asks.Append rows expected new) at legal =
      let (m, q) = some_and c.member (λ (m : ℕ).
      LegalOfWriter list start c.shard m (entries_of c es) (asks.Append rows expected new) (answers.Mismatch upper)) legal in
      subst (λ (s : ShardId). Once (UpperIs s upper) start es list) of
      (mismatch_reaches list start c.shard c.client c.calls m es rows expected new upper q)
  mismatch_at upper c of (asks.OpenWriter d) at legal = absurd (no_and c.member legal)
  mismatch_at upper c of asks.CloseWriter at legal = absurd (no_and c.member legal)
  mismatch_at upper c of other at legal = absurd at

pub ok_means : (appends : List FeedAppend) (place now : ℕ) (shard : ShardId) (client : ℕ) (front : Option History) →
    now ≡ min (place + 1) (2 ^ 64 - 1) →
    WhereLawful shard front (Backwards (IsAnswered appends place shard client answers.Ok)) → PlaceMeans appends shard now front
ok_means appends place now shard client front is legal past some =
    where_map shard front (Backwards (IsAnswered appends place shard client answers.Ok))
    (Backwards (Once (UpperIs shard (end_of_feed appends))))
    (λ h list st l k. ok_at_end appends place shard list h.start (reverse h.trail) (next is past)
    k.command k.shard_is k.command.asked k.may k.legal)
    legal
  where
    next : now ≡ min (place + 1) (2 ^ 64 - 1) → length appends ≤ now → length appends ≤ place + 1
    next is past = omega arith

pub mismatch_means : (appends : List FeedAppend) (place : ℕ) (upper : Option ℕ) (shard : ShardId) (client : ℕ)
    (front : Option History) →
    WhereLawful shard front (Backwards (IsAnswered appends place shard client (answers.Mismatch upper))) → Reached shard upper front
mismatch_means appends place upper shard client front legal =
    where_map shard front (Backwards (IsAnswered appends place shard client (answers.Mismatch upper)))
    (Backwards (Once (UpperIs shard upper)))
    (λ h list st l k. mismatch_at appends place shard list h.start (reverse h.trail)
    upper k.command k.shard_is k.command.asked k.may k.legal)
    legal

-- at the place of an upper
pub place_means : (appends : List FeedAppend) (shard : ShardId) (upper : Option ℕ) (place : ℕ) (front : Option History) →
    IsPlaceOf appends upper place → Reached shard upper front → PlaceMeans appends shard place front
place_means appends shard upper place front (inl (a, at, begins)) reached past some = absurd (let k = at.within in omega arith)
place_means appends shard upper place front (inr (all, ends)) reached past some =
    subst (λ (u : Option ℕ). Reached shard u front) ends reached

-- a refusal that ends the worker
pub was_answered : (appends : List FeedAppend) (place : ℕ) (shard : ShardId) (client : ℕ) (answer : WriteAnswer)
    (front : Option History) → WhereLawful shard front (Backwards (IsAnswered appends place shard client answer)) →
    WasAnswered appends shard client answer front
was_answered appends place shard client answer front legal =
    once_here (λ start es list. (p : ℕ) × IsAnswered appends p shard client answer start es list) shard front
    (where_map shard front (Backwards (IsAnswered appends place shard client answer))
    (Backwards (λ start es list. (p : ℕ) × IsAnswered appends p shard client answer start es list)) (λ h list st l k. (place, k)) legal)
