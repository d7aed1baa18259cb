-- The two ways of a reply: no version is shown, which is answered, or the transition is tried.
use Rattle.std.proofs.Common.{◌≡◌, ◌≢◌, Option, Some, None, [], refl, sym, ap, subst, ◌∙◌}
use Rattle.std.specs.Prelude.{IsSome}
use Rattle.std.specs.Option.{option_map}
use Rattle.store_core.specs.declared.replies.Reply.{Reply}
use Rattle.store_core.specs.declared.replies.Reply.TheVariants as replies
use Rattle.load_core.specs.declared.polls.Poll.{Poll}
use Rattle.load_core.specs.declared.polls.Poll.TheVariants as polls
use Rattle.load_core.specs.declared.tries.Tried.{Tried}
use Rattle.load_core.specs.declared.tries.Tried.TheVariants as tries
use Rattle.load_core.specs.declared.tryings.Trying.{Trying}
use Rattle.load_core.specs.Trying as trying
use Rattle.load_core.proofs.Replied.{tried_failed}
use Rattle.load_core.proofs.Runs.{moves_same}
use Rattle.load_core.proofs.TryFacts.{tried_fault}
use Rattle.machine_core.specs.Machines.{GoesOn}
use Rattle.try_machine.specs.declared.tryers.Tryer.{Tryer}
use Rattle.try_machine.specs.Rules.{IsEnd, IsRule, Rules}
use Rattle.try_machine.specs.Tryers.{Ended, Moves, MovesBy, asked_after, empty_answer, empty_of, kept, verdict}
use Rattle.try_machine.proofs.Tries.{Empties, empties, empties_of, some_is}

module _ {R A : Type 0} (Q : Rules R A) where
  pub data Way (m : Tryer R) (r : Reply) (new : Tryer R) (poll : Poll A) : Type 0 where
    emptied : (q : R) (a : A) → m.asked ≡ Some q → m.trying.loader.cached ≡ None → r ≡ replies.Versions [] → Q.empty q ≡ Some a →
        poll ≡ polls.Done a → new ≡ record { trying = trying.called m.trying; asked = None } → Way m r new poll
    tried : (q : R) (t : Trying) (k : Tried) → m.asked ≡ Some q → trying.Moves m.trying r t k → poll ≡ verdict Q q t k →
        new ≡ record { trying = t; asked = asked_after (Some q) poll } → Way m r new poll

  pub way : (m new : Tryer R) (r : Reply) (poll : Poll A) → Moves Q m r new poll → Way m r new poll
  way m new r poll moves =
      let (q, is, h) = some_is (λ q. MovesBy Q (empty_answer Q m r) q m r new poll) m.asked moves in
      by q is (empty_answer Q m r) refl h
    where
      by : (q : R) → m.asked ≡ Some q → (o : Option A) → empty_answer Q m r ≡ o → MovesBy Q o q m r new poll → Way m r new poll
      by q is None e (t, k, mv, p, n) = tried q t k is mv p n
      by q is (Some a) e (p, n) = found (empties_of m.trying.loader.cached r (empty_of Q m.asked) a e)
        where
          found : Empties m.trying.loader.cached r (empty_of Q m.asked) a → Way m r new poll
          found (empties none shown some) = emptied q a is none shown (sym (ap (empty_of Q) is) ∙ some) p n

  pub moved_shard : (m new : Tryer R) (r : Reply) (poll : Poll A) → Moves Q m r new poll → new.trying.loader.shard ≡ m.trying.loader.shard
  moved_shard m new r poll moves = by (way m new r poll moves)
    where
      by : Way m r new poll → new.trying.loader.shard ≡ m.trying.loader.shard
      by (emptied q a is none shown some p n) = ap (λ (z : Tryer R). z.trying.loader.shard) n
      by (tried q t k is mv p n) = ap (λ (z : Tryer R). z.trying.loader.shard) n ∙ (moves_same m.trying t r k mv).shard

  pub counted : (m new : Tryer R) (r : Reply) (poll : Poll A) → Moves Q m r new poll → new.trying.calls ≡ trying.more m.trying.calls
  counted m new r poll moves = by (way m new r poll moves)
    where
      by : Way m r new poll → new.trying.calls ≡ trying.more m.trying.calls
      by (emptied q a is none shown some p n) = ap (λ (z : Tryer R). z.trying.calls) n
      by (tried q t k is mv p n) = ap (λ (z : Tryer R). z.trying.calls) n ∙ (moves_same m.trying t r k mv).calls

  pub done_ended : (m new : Tryer R) (r : Reply) (answer : A) → Moves Q m r new (polls.Done answer) → Ended (kept Q m) new
  done_ended m new r answer moves = record {
    asked = by (way m new r (polls.Done answer) moves);
    shard = moved_shard m new r (polls.Done answer) moves;
  }
    where
      by : Way m r new (polls.Done answer) → new.asked ≡ None
      by (emptied q a is none shown some p n) = ap (λ (z : Tryer R). z.asked) n
      by (tried q t k is mv p n) = ap (λ (z : Tryer R). z.asked) n

module _ {R A : Type 0} (Q : Rules R A) (L : IsRule Q) where
  -- ---- what a try comes to

  pub data Coming (q : R) (t : Trying) (k : Tried) : Type 0 where
    goes : verdict Q q t k ≡ polls.More → Coming q t k
    faults : k ≡ tries.Fault → verdict Q q t k ≡ polls.Fault → Coming q t k
    ends : IsEnd (verdict Q q t k) → Coming q t k

  pub coming : (q : R) (t : Trying) (k : Tried) → Coming q t k
  coming q t (tries.Committed version) = ends tt
  coming q t tries.Begun = goes refl
  coming q t tries.Again = goes refl
  coming q t tries.Goes = goes refl
  coming q t tries.Fault = faults refl refl
  coming q t (tries.Refused refusal) = ends (L.ends q t.loader.cached refusal)
  coming q t tries.Spent = ends tt
  coming q t (tries.Damaged damage) = ends tt

  end_goes : (p : Poll A) → IsEnd p → GoesOn p → ⊥
  end_goes polls.Busy h g = h
  end_goes polls.More h g = h
  end_goes polls.Fault h g = h
  end_goes polls.Spent h g = g
  end_goes (polls.Damaged d) h g = g
  end_goes (polls.Done a) h g = g

  asked_goes : (q : R) (p : Poll A) → GoesOn p → asked_after (Some q) p ≡ Some q
  asked_goes q polls.Busy g = refl
  asked_goes q polls.More g = refl
  asked_goes q polls.Fault g = refl
  asked_goes q polls.Spent g = absurd g
  asked_goes q (polls.Damaged d) g = absurd g
  asked_goes q (polls.Done a) g = absurd g

  pub moved_kept : (m new : Tryer R) (r : Reply) (poll : Poll A) → Moves Q m r new poll → GoesOn poll → kept Q new ≡ kept Q m
  moved_kept m new r poll moves on = by (way Q m new r poll moves)
    where
      by : Way Q m r new poll → kept Q new ≡ kept Q m
      by (emptied q a is none shown some p n) = absurd (subst GoesOn p on)
      by (tried q t k is mv p n) =
          let same = moves_same m.trying t r k mv in
          let asked : asked_after (Some q) poll ≡ m.asked = asked_goes q poll on ∙ sym is in
          ap (kept Q) n ∙ (λ i. record { fixed = option_map Q.fixed (asked i); shard = same.shard i; step = same.step i })

  pub moved_open : (m new : Tryer R) (r : Reply) (poll : Poll A) → Moves Q m r new poll → GoesOn poll → IsSome new.asked
  moved_open m new r poll moves on = by (way Q m new r poll moves)
    where
      by : Way Q m r new poll → IsSome new.asked
      by (emptied q a is none shown some p n) = absurd (subst GoesOn p on)
      by (tried q t k is mv p n) = subst (λ (o : Option R). IsSome o) (sym (ap (λ (z : Tryer R). z.asked) n ∙ asked_goes q poll on)) refl

  pub never_busy : (m new : Tryer R) (r : Reply) → ¬ Moves Q m r new polls.Busy
  never_busy m new r moves = by (way Q m new r polls.Busy moves)
    where
      on : (q : R) (t : Trying) (k : Tried) → polls.Busy ≡ verdict Q q t k → Coming q t k → ⊥
      on q t k p (goes e) = let bad : ◌≡◌ {A = Poll A} polls.Busy polls.More = p ∙ e in cc
      on q t k p (faults f e) = let bad : ◌≡◌ {A = Poll A} polls.Busy polls.Fault = p ∙ e in cc
      on q t k p (ends e) = subst IsEnd (sym p) e

      by : Way Q m r new polls.Busy → ⊥
      by (emptied q a is none shown some p n) = let bad : polls.Busy ≡ polls.Done a = p in cc
      by (tried q t k is mv p n) = on q t k p (coming q t k)

  pub fault_failed : (m new : Tryer R) (r : Reply) → Moves Q m r new polls.Fault → r ≡ replies.Failed
  fault_failed m new r moves = by (way Q m new r polls.Fault moves)
    where
      on : (q : R) (t : Trying) (k : Tried) → trying.Moves m.trying r t k → polls.Fault ≡ verdict Q q t k → Coming q t k →
          r ≡ replies.Failed
      on q t k mv p (goes e) = absurd (let bad : ◌≡◌ {A = Poll A} polls.Fault polls.More = p ∙ e in cc)
      on q t k mv p (faults f e) = tried_fault m.trying t r (subst (λ (z : Tried). trying.Moves m.trying r t z) f mv)
      on q t k mv p (ends e) = absurd (subst IsEnd (sym p) e)

      by : Way Q m r new polls.Fault → r ≡ replies.Failed
      by (emptied q a is none shown some p n) = absurd (let bad : polls.Fault ≡ polls.Done a = p in cc)
      by (tried q t k is mv p n) = on q t k mv p (coming q t k)

  pub more_answered : (m new : Tryer R) (r : Reply) → Moves Q m r new polls.More → r ≢ replies.Failed
  more_answered m new r moves bad_reply = by (way Q m new r polls.More moves)
    where
      by : Way Q m r new polls.More → ⊥
      by (emptied q a is none shown some p n) = let bad : polls.More ≡ polls.Done a = p in cc
      by (tried q t k is mv p n) =
          let failed_try : k ≡ tries.Fault = tried_failed m.trying t k (subst (λ (z : Reply). trying.Moves m.trying z t k) bad_reply mv) in
          let bad : ◌≡◌ {A = Poll A} polls.More polls.Fault = p ∙ ap (verdict Q q t) failed_try in cc
