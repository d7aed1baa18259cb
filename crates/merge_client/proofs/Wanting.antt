-- A compactor follows from its client's own entries also after want of memory. Entries go newest first.
use Rattle.std.proofs.Common.{◌≡◌, ℕ, ◌+◌, ◌<◌, Option, Some, None, List, ◌∷◌, ◌++◌}
use Rattle.std.proofs.Common.{inl, inr, refl, sym, ap, subst, ◌∙◌, arith, min}
use Rattle.std.specs.Prelude.{IfSome, IsSome, IsSomeAnd}
use Rattle.update_core.specs.declared.updates.Update.{Update}
use Rattle.store_core.specs.declared.replies.Reply.{Reply}
use Rattle.store_core.specs.declared.entries.Entry.{Entry}
use Rattle.store_core.specs.Histories.{reply}
use Rattle.store_core.specs.Stores.{Stored}
use Rattle.store_core.specs.Ports.{Answered, OfOthers, answered}
use Rattle.store_core.specs.Newest.{mine_back, replay_back}
use Rattle.state_core.specs.declared.kinds.Kind.TheVariants.{Keeper}
use Rattle.state_core.specs.declared.transitions.Transition.{Transition}
use Rattle.state_core.specs.declared.transitions.Transition.TheVariants.{Join, Leave, Renew}
use Rattle.state_core.specs.Lists.{Among}
use Rattle.state_core.specs.States.{ShardState}
use Rattle.update_core.specs.Limits.{most}
use Rattle.history_core.specs.declared.asked.Asked.{Asked}
use Rattle.history_core.specs.declared.asked.Asked.TheVariants as asks
use Rattle.history_core.specs.Discipline.{LawfulBack}
use Rattle.history_core.specs.Placing.{Placed, places}
use Rattle.history_core.specs.Stands.{StandsFor}
use Rattle.history_core.specs.Upkeep.{TriesMerge}
use Rattle.history_core.proofs.Gaining.{mine_gained, places_gained}
use Rattle.load_core.specs.declared.nexts.Next.{Next}
use Rattle.load_core.specs.declared.nexts.Next.TheVariants as nexts
use Rattle.load_core.specs.Trying as trying
use Rattle.load_core.proofs.Runs.{next_calls}
use Rattle.token_machine.specs.Storings as storing
use Rattle.token_machine.proofs.Stepping.{storing_called, trying_called}
use Rattle.merge_client.specs.declared.compactors.Compactor.{Compactor}
use Rattle.merge_client.specs.declared.dues.Due.{Due}
use Rattle.merge_client.specs.declared.pairs.Pair.{Pair}
use Rattle.merge_client.specs.Following.{Follows, FollowsAsked, FollowsDraft, FollowsMerge, IsPairOf, Tries, WasTried}
use Rattle.merge_client.specs.Merging.{IsReady, call_of, shard_of}
use Rattle.merge_client.proofs.Following.{pair_more}
use Rattle.merge_client.proofs.Going.{Asks, closes, merges, opens, renews}
use Rattle.merge_client.proofs.Trying.{call, member_now}

module _ (client : ℕ) (c : Compactor) (start : Stored) (list : List Update) (e : Entry) (others es : List Entry)
    (ready : IsReady c) (own : e.client ≡ client) (call_is : call_of c ≡ Some e.call) (of : OfOthers client others)
    (st : StandsFor start (shard_of c) list) (lawful : LawfulBack start (e ∷ (others ++ es))) (f : Follows client c start es)
    (none : c.reading.asked ≡ None) where
  abbrev here : Reply
  here = reply (replay_back start (others ++ es)) e

  abbrev was : List Answered
  was = mine_back start es client

  abbrev now : List Entry
  now = e ∷ (others ++ es)

  abbrev Mine : List Answered
  Mine = mine_back start now client

  mine : Mine ≡ answered e here ∷ was
  mine = mine_gained start client e others es own of

  made : storing.call_of c.storing ≡ Some e.call
  made = call client c start list e others es ready own call_is of st lawful f none

  module _ (asked : Asked) (a : Asks client c start es asked) where
    -- after want of memory the Scan comes again
    pub try_wants : c.asked ≡ Some asked → trying.IsScanning c.storing.trying.next →
        Follows client (record c { storing = storing.called c.storing }) start now
    try_wants busy idle = record {
      trying = trying_called client c.storing start e others es ready.sound.storing own made of f.trying;
      member = member_now client c start list e others es ready own call_is of st lawful f none asked a;
      asked = subst (FollowsAsked client v start now) (sym busy) (by a);
    }
      where
        v : Compactor
        v = record c { storing = storing.called c.storing }

        still : (x : Transition) → Tries c x → Tries v x
        still x t = record { step = t.step; no_keys = t.no_keys; undrafted = t.undrafted }

        told : (b : Asked) → asked ≡ b → FollowsAsked client v start now (Some b) → FollowsAsked client v start now (Some asked)
        told b is h = subst (λ (z : Asked). FollowsAsked client v start now (Some z)) (sym is) h

        kept : (m : ℕ) (p : Pair) (k : ShardState) (n : Next) → trying.IsScanning n → WasTried client c es m p k n →
            WasTried client v now m p k nexts.Scan
        kept m p k nexts.Attempt i h = absurd h
        kept m p k (nexts.Cas r) i h = absurd i
        kept m p k nexts.Scan i (inr h) = inr h
        kept m p k nexts.Scan i (inl h) = inl (λ lt.
            let one = next_calls c.storing.trying.calls (trying.more c.storing.trying.calls) refl lt in
            subst (λ (ps : List Placed). Among (λ q. TriesMerge (shard_of c) m c.token p.left p.right q.entry.call) ps)
            (sym (ap (λ (n : ℕ). places client n now) one ∙ places_gained client c.storing.trying.calls e others es own of))
            (inr (h (omega (arith, one, lt)))))

        draft_on : (m : ℕ) → c.member ≡ Some m → FollowsDraft client c start es m → FollowsDraft client v start now m
        draft_on m named h = record {
          state = h.state;
          of_pair = h.of_pair;
          draft = h.draft;
          pair = subst (λ (os : List Answered). IsPairOf (shard_of c) m c.token os h.of_pair h.state) (sym mine)
              (pair_more (shard_of c) m c.token (answered e here) was h.of_pair h.state h.pair);
          is_draft = h.is_draft;
          step = h.step;
          keys = h.keys;
          parts = h.parts;
          called = (let one : trying.more c.storing.trying.calls ≡ min (c.storing.trying.calls + 1) most = refl in omega (arith, one));
          storing = storing_called client c.storing start e others es ready.sound.storing own made of m c.token h.storing
              (let d = ready.sound.seen none in subst (λ (o : Option ℕ). IfSome o (λ n. IsSome c.storing.trying.loader.cached)) named d)
              idle;
          tried = kept m h.of_pair h.state c.storing.trying.next idle h.tried;
        }

        by : Asks client c start es asked → FollowsAsked client v start now (Some asked)
        by (opens shard at lease is same_shard t) = told (asks.OpenCompactor shard at lease) is
            (same_shard, still (Join Keeper at lease) t)
        by (renews at n is named t) = told (asks.RenewCompactor at) is
            (subst (λ (o : Option ℕ). IsSomeAnd o (λ k. Tries v (Renew k at))) (sym named) (still (Renew n at) t))
        by (closes n is named t) = told asks.CloseCompactor is
            (subst (λ (o : Option ℕ). IsSomeAnd o (λ k. Tries v (Leave k))) (sym named) (still (Leave n) t))
        by (merges n is named pos h) = told asks.Merge is
            (subst (λ (o : Option ℕ). IsSomeAnd o (λ k. (0 < c.token) × FollowsMerge client v start now k c.reading.asked c.pair))
            (sym named) (
              pos,
              subst (λ (o : Option Due). FollowsMerge client v start now n o c.pair) (sym none)
                  (subst (λ (o : Option Pair). FollowsMerge client v start now n None o) (sym ready.drafted) (draft_on n named h)),
            ))
