-- What such a machine holds, after its next call is prepared and after a reply.
use Rattle.std.proofs.Common.{◌≡◌, true, false, Option, Some, None, Ok, List, refl, sym, ap, subst, ◌∙◌}
use Rattle.std.specs.Prelude.{IfSome, IsSome, []}
use Rattle.store_core.specs.declared.replies.Reply.{Reply}
use Rattle.store_core.specs.declared.replies.Reply.TheVariants as replies
use Rattle.store_core.specs.declared.versions.Version.{Version}
use Rattle.state_core.specs.States.{ShardState}
use Rattle.load_core.specs.declared.attempts.Attempt.TheVariants as attempts
use Rattle.load_core.specs.declared.nexts.Next.{Next}
use Rattle.load_core.specs.declared.nexts.Next.TheVariants as nexts
use Rattle.load_core.specs.declared.polls.Poll.{Poll}
use Rattle.load_core.specs.declared.polls.Poll.TheVariants as polls
use Rattle.load_core.specs.declared.readies.Ready.{Ready}
use Rattle.load_core.specs.declared.tries.Tried.{Tried}
use Rattle.load_core.specs.declared.tries.Tried.TheVariants as tries
use Rattle.load_core.specs.declared.tryings.Trying.{Trying}
use Rattle.load_core.specs.Costing.{IsPrepared}
use Rattle.load_core.specs.Loading.{newest_after}
use Rattle.load_core.specs.Trying as trying
use Rattle.load_core.proofs.Causes.{newest_none}
use Rattle.load_core.proofs.Outcomes.{HowMoved, scanned, failed, cased, how_moved}
use Rattle.load_core.proofs.Runs.{moves_same}
use Rattle.load_core.proofs.TryFacts.{prepared_next, prepares_is}
use Rattle.try_machine.specs.declared.tryers.Tryer.{Tryer}
use Rattle.try_machine.specs.Rules.{AsksSame, Rules}
use Rattle.try_machine.specs.Tryers.{AskSame, HasLooked, IsReady, IsSound, SoundBy, asked_after, empty_answer, empty_by, empty_of}
use Rattle.try_machine.specs.Tryers.{looked_asked}

-- and where no state was seen none is ready after that, if none was before
still_unready : (t new : Trying) → trying.Prepares t new → t.loader.cached ≡ None → trying.IsScanning t.next → trying.IsScanning new.next
still_unready t new prepares none idle = go t.next idle prepares
  where
    on : (c : Option ShardState) → c ≡ None → trying.PreparesOn c t new → trying.IsScanning new.next
    on None e is = subst (λ (z : Trying). trying.IsScanning z.next) (sym is) tt
    on (Some s) e is = absurd (let bad : Some s ≡ None = e in cc)

    go : (n : Next) → trying.IsScanning n → trying.PreparesBy n t new → trying.IsScanning new.next
    go nexts.Attempt i p = on t.loader.cached none p
    go nexts.Scan i p = subst (λ (z : Trying). trying.IsScanning z.next) (sym p) idle
    go (nexts.Cas r) i p = absurd i

module _ (R A : Type 0) (Q : Rules R A) where
  sound_asked : (t new : Trying) (r q : R) → trying.Prepares t new → AsksSame Q r q → SoundBy Q t r → SoundBy Q new q
  sound_asked t new r q prepares (fixed, empty) s =
      let is = prepares_is t new prepares in
      record {
        step_is = ap (λ (z : Trying). z.step) is ∙ s.step_is ∙ ap Q.step (sym fixed);
        unready = λ some none.
            let none2 : t.loader.cached ≡ None = sym (ap (λ (z : Trying). z.loader.cached) is) ∙ none in
            still_unready t new prepares none2 (s.unready (subst (λ (a : Option A). IsSome a) empty some) none2);
      }

  -- once the next call is prepared
  pub prepared_sound : (old : Tryer R) (t : Trying) (a : Option R) → IsSound Q old → trying.Prepares old.trying t → trying.IsSound t →
      a ≡ looked_asked Q old.asked old.trying.loader.cached → AskSame Q old.asked a → IsSound Q (record { trying = t; asked = a })
  prepared_sound old t a sound prepares ready is same = record { trying = ready; asked = go old.asked a sound.asked is same }
    where
      go : (o p : Option R) → IfSome o (SoundBy Q old.trying) → p ≡ looked_asked Q o old.trying.loader.cached → AskSame Q o p →
          IfSome p (SoundBy Q t)
      go None p s e k = subst (λ (x : Option R). IfSome x (SoundBy Q t)) (sym e) tt
      go (Some r) None s e k = tt
      go (Some r) (Some q) s e k = sound_asked old.trying t r q prepares k s

  pub prepared_ready : (old : Tryer R) (t : Trying) (a : Option R) → IsSound Q old → trying.Prepares old.trying t → trying.IsSound t →
      a ≡ looked_asked Q old.asked old.trying.loader.cached → AskSame Q old.asked a → IsReady Q (record { trying = t; asked = a })
  prepared_ready old t a sound prepares ready is same = record {
    sound = prepared_sound old t a sound prepares ready is same;
    looked = subst (λ (c : Option ShardState). IfSome a (HasLooked Q c))
        (sym (ap (λ (z : Trying). z.loader.cached) (prepares_is old.trying t prepares))) (go old.asked a is);
    prepared = prepared_next old.trying t prepares;
  }
    where
      go : (o p : Option R) → p ≡ looked_asked Q o old.trying.loader.cached → IfSome p (HasLooked Q old.trying.loader.cached)
      go None p e = subst (λ (x : Option R). IfSome x (HasLooked Q old.trying.loader.cached)) (sym e) tt
      go (Some r) p e = subst (λ (x : Option R). IfSome x (HasLooked Q old.trying.loader.cached)) (sym e) (r, refl)

-- ---- after a reply

-- what a try leaves next where no state is known, unless it was shown that there is no version
moved_unready : (t new : Trying) (r : Reply) (tried : Tried) → trying.Moves t r new tried →
    (r ≡ replies.Versions [] → t.loader.cached ≡ None → ⊥) → new.loader.cached ≡ None → trying.IsScanning new.next
moved_unready t new r tried moves shown none = go (how_moved t new r tried moves)
  where
    by : (z : Trying) → new ≡ z → trying.IsScanning z.next → trying.IsScanning new.next
    by z e i = subst (λ (y : Trying). trying.IsScanning y.next) (sym e) i

    never : (s : ShardState) → new.loader.cached ≡ Some s → trying.IsScanning new.next
    never s e = absurd (let bad : Some s ≡ None = sym e ∙ none in cc)

    cas : (k : Tried) (rd : Ready) → trying.MovesAfterCas (trying.asked (trying.called t) rd) rd r new k → trying.IsScanning new.next
    cas (tries.Committed version) rd m = by (trying.holding (trying.asked (trying.called t) rd) (Some rd.after) nexts.Scan) m.2 tt
    cas tries.Begun rd m = by (trying.holding (trying.asked (trying.called t) rd) (Some rd.after) nexts.Attempt) m.2 tt
    cas tries.Again rd m = by (trying.asked (trying.called t) rd) m.2 tt
    cas tries.Fault rd m = by (record (trying.asked (trying.called t) rd) { failed = true }) m.1 tt
    cas tries.Goes rd m = absurd m
    cas (tries.Refused refusal) rd m = absurd m
    cas tries.Spent rd m = absurd m
    cas (tries.Damaged damage) rd m = absurd m

    scan : (k : Tried) (vs : List Version) → r ≡ replies.Versions vs →
        trying.ComesTo (newest_after t.loader.shard t.loader.cached vs) (trying.called t) new k → trying.IsScanning new.next
    scan tries.Goes vs is (newest, rd, reads, ready, now) =
        let no_newest : newest ≡ None = sym (ap (λ (z : Trying). z.loader.cached) now) ∙ none in
        let empty = newest_none t.loader.shard t.loader.cached vs (reads ∙ ap (λ (o : Option ShardState). Ok o) no_newest) in
        absurd (shown (is ∙ ap (λ (l : List Version). replies.Versions l) empty.0) empty.1)
    scan (tries.Refused refusal) vs is (s, reads, refused, now) = never s (ap (λ (z : Trying). z.loader.cached) now)
    scan tries.Spent vs is (s, reads, free, last, now) = never s (ap (λ (z : Trying). z.loader.cached) now)
    scan (tries.Damaged damage) vs is (reads, now) = by (trying.called t) now tt
    scan (tries.Committed version) vs is m = absurd m
    scan tries.Begun vs is m = absurd m
    scan tries.Again vs is m = absurd m
    scan tries.Fault vs is m = absurd m

    go : HowMoved t new r tried → trying.IsScanning new.next
    go (scanned vs idle is m) = scan tried vs is m
    go (failed idle is bad now) = by (trying.called t) now tt
    go (cased rd next m) = cas tried rd m

pub none_of : {A : Type 0} (o : Option A) → ((a : A) → o ≡ Some a → ⊥) → o ≡ None
none_of None h = refl
none_of (Some a) h = absurd (h a refl)

module _ (R A : Type 0) (Q : Rules R A) where
  pub moved_sound : (old : Tryer R) (t : Trying) (tried : Tried) (reply : Reply) (r : R) (poll : Poll A) → IsSound Q old →
      old.asked ≡ Some r → trying.Moves old.trying reply t tried → trying.IsSound t → empty_answer Q old reply ≡ None →
      IsSound Q (record { trying = t; asked = asked_after (Some r) poll })
  moved_sound old t tried reply r poll sound is moves ready none = record { trying = ready; asked = go poll }
    where
      before : SoundBy Q old.trying r
      before = let s = sound.asked in subst (λ (o : Option R). IfSome o (SoundBy Q old.trying)) is s

      contradicts : IsSome (Q.empty r) → reply ≡ replies.Versions [] → old.trying.loader.cached ≡ None → ⊥
      contradicts some versions unknown =
          let e1 : empty_by old.trying.loader.cached reply (empty_of Q old.asked) ≡ Q.empty r =
          ap (λ (c : Option ShardState). empty_by c reply (empty_of Q old.asked)) unknown ∙
          ap (λ (q : Reply). empty_by None q (empty_of Q old.asked)) versions ∙ ap (empty_of Q) is in
          let bad : false ≡ true = subst (λ (a : Option A). IsSome a) (sym e1 ∙ none) some in cc

      after : SoundBy Q t r
      after = record {
        step_is = (moves_same old.trying t reply tried moves).step ∙ before.step_is;
        unready = λ some unknown. moved_unready old.trying t reply tried moves (contradicts some) unknown;
      }

      go : (p : Poll A) → IfSome (asked_after (Some r) p) (SoundBy Q t)
      go polls.Busy = after
      go polls.More = after
      go polls.Fault = after
      go polls.Spent = tt
      go (polls.Damaged damage) = tt
      go (polls.Done answer) = tt
