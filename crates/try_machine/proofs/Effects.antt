-- What the call of a poll has done, and that the client may make it. Entries go newest first.
use Rattle.std.proofs.Common.{◌≡◌, ℕ, true, false, Option, Some, None, List, [], refl, sym, subst, ◌∙◌, inl, inr}
use Rattle.std.specs.Prelude.{IfSome, IsSome}
use Rattle.store_core.specs.declared.shards.ShardId.{ShardId}
use Rattle.store_core.specs.declared.calls.Call.{Call}
use Rattle.store_core.specs.declared.replies.Reply.{Reply}
use Rattle.store_core.specs.declared.replies.Reply.TheVariants as replies
use Rattle.store_core.specs.declared.entries.Entry.{Entry}
use Rattle.store_core.specs.Stores.{Stored}
use Rattle.store_core.specs.Newest.{mine_back}
use Rattle.state_core.specs.declared.transitions.Transition.{Transition}
use Rattle.history_core.specs.Discipline.{Allows, Holds}
use Rattle.load_core.specs.declared.nexts.Next.{Next}
use Rattle.load_core.specs.declared.nexts.Next.TheVariants as nexts
use Rattle.load_core.specs.declared.polls.Poll.{Poll}
use Rattle.load_core.specs.declared.polls.Poll.TheVariants as polls
use Rattle.load_core.specs.declared.tries.Tried.{Tried}
use Rattle.load_core.specs.declared.tries.Tried.TheVariants as tries
use Rattle.load_core.specs.declared.tryings.Trying.{Trying}
use Rattle.load_core.specs.Effects.{CommitsNone, IsShown, TriedEffect}
use Rattle.load_core.specs.Following.{HoldsNext}
use Rattle.load_core.specs.Runs.{OnlyCarries}
use Rattle.load_core.specs.Trying as trying
use Rattle.load_core.proofs.Effects.{tried_effect}
use Rattle.load_core.proofs.Following as following
use Rattle.load_core.proofs.Replied.{stop_shown}
use Rattle.machine_core.specs.Machines.{Asking}
use Rattle.load_core.proofs.TryFacts.{tried_carries}
use Rattle.try_machine.specs.declared.tryers.Tryer.{Tryer}
use Rattle.try_machine.specs.Rules.{IsEnd, IsRule, Rules}
use Rattle.try_machine.specs.Tryers.{Did, DidBy, IsReady, Moves, SoundBy, kept, verdict, words}
use Rattle.try_machine.proofs.Tries.{shown_versions}
use Rattle.try_machine.proofs.Ways.{Way, emptied, tried, way}

module _ {R A : Type 0} (Q : Rules R A) where
  pub sound_by : (m : Tryer R) (q : R) → IsReady Q m → m.asked ≡ Some q → SoundBy Q m.trying q
  sound_by m q ready is = let s = ready.sound.asked in subst (λ (o : Option R). IfSome o (SoundBy Q m.trying)) is s

  pub idle_of : (m : Tryer R) (q : R) (a : A) → IsReady Q m → m.asked ≡ Some q → m.trying.loader.cached ≡ None → Q.empty q ≡ Some a →
      trying.IsScanning m.trying.next
  idle_of m q a ready is none some = (sound_by m q ready is).unready (subst (λ (o : Option A). IsSome o) (sym some) refl) none

module _ {R A : Type 0} (Q : Rules R A) (L : IsRule Q) where
  end_did : (shard : ShardId) (step : Transition) (call : Call) (r : Reply) (p : Poll A) → IsEnd p →
      CommitsNone r × IsShown shard call r → DidBy shard step call r p
  end_did shard step call r polls.Busy h k = absurd h
  end_did shard step call r polls.More h k = absurd h
  end_did shard step call r polls.Fault h k = absurd h
  end_did shard step call r polls.Spent h k = k
  end_did shard step call r (polls.Damaged d) h k = tt
  end_did shard step call r (polls.Done a) h k = inr k

  abbrev DidOf : Tryer R → Reply → Poll A → Type 0
  DidOf m r p = DidBy m.trying.loader.shard m.trying.step (trying.call_of m.trying) r p

  pub effect : (m new : Tryer R) (call : Call) (r : Reply) (poll : Poll A) → IsReady Q m → Some (trying.call_of m.trying) ≡ Some call →
      Moves Q m r new poll → Did (kept Q m) call r poll
  effect m new call r poll ready is_call moves = record {
    carries = subst (OnlyCarries m.trying.loader.shard m.trying.step) same (tried_carries m.trying ready.sound.trying);
    did = subst (λ (c : Call). DidBy m.trying.loader.shard m.trying.step c r poll) same (by (way Q m new r poll moves));
  }
    where
      same : trying.call_of m.trying ≡ call
      same = cc

      on : (q : R) (t : Trying) (k : Tried) → trying.Moves m.trying r t k → TriedEffect m.trying r t k → DidOf m r (verdict Q q t k)
      on q t (tries.Committed version) mv h = inl h.commits
      on q t tries.Begun mv h = inr h
      on q t tries.Again mv h = inl h
      on q t tries.Goes mv h = inl h
      on q t tries.Fault mv h = tt
      on q t (tries.Refused refusal) mv h = end_did m.trying.loader.shard m.trying.step (trying.call_of m.trying) r
          (Q.refused q t.loader.cached refusal) (L.ends q t.loader.cached refusal) (
            h,
            stop_shown m.trying t r (tries.Refused refusal) tt
                mv,
          )
      on q t tries.Spent mv h = (h, stop_shown m.trying t r tries.Spent tt mv)
      on q t (tries.Damaged damage) mv h = tt

      none_committed : r ≡ replies.Versions [] → CommitsNone r
      none_committed is = record {
        answered = λ bad. absurd (let no : replies.Versions [] ≡ replies.Failed = sym is ∙ bad in cc);
        none = λ version bad. absurd (let no : replies.Versions [] ≡ replies.Committed version = sym is ∙ bad in cc);
      }

      by : Way Q m r new poll → DidOf m r poll
      by (emptied q a is none shown some p n) = subst (DidOf m r) (sym p)
          (inr (none_committed shown, shown_versions m.trying r [] (idle_of Q m q a ready is none some) shown))
      by (tried q t k is mv p n) = subst (DidOf m r) (sym p) (on q t k mv (tried_effect m.trying t r k ready.sound.trying mv))

  pub allowed : (client : ℕ) (m : Tryer R) (call : Call) (start : Stored) (es : List Entry) → Asking (words Q) client m call start es →
      Allows (mine_back start es client) call
  allowed client m call start es a =
      let same : trying.call_of m.trying ≡ call = (let is = a.call_is in cc) in
      subst (Allows (mine_back start es client)) same (following.tried_allowed m.trying (mine_back start es client) a.ready.sound.trying
      a.follows.trying (holds m.trying.next))
    where
      step_holds : Holds (mine_back start es client) m.trying.step
      step_holds = on m.asked a.is_open a.ready.sound.asked
        where
          on : (o : Option R) → IsSome o → IfSome o (SoundBy Q m.trying) → Holds (mine_back start es client) m.trying.step
          on None o s = absurd (let bad : false ≡ true = o in cc)
          on (Some q) o s = subst (Holds (mine_back start es client)) (sym s.step_is) (L.holds (Q.fixed q) (mine_back start es client))

      holds : (n : Next) → HoldsNext n m.trying.step (mine_back start es client)
      holds nexts.Attempt = tt
      holds nexts.Scan = tt
      holds (nexts.Cas rd) = step_holds
