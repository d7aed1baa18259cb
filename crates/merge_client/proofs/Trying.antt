-- A compactor follows from its client's own entries after one more call of what it tries. Entries go newest first.
use Rattle.std.proofs.Common.{◌≡◌, ℕ, ◌+◌, ◌<◌, true, false, Option, Some, None, List, ◌∷◌, ◌++◌}
use Rattle.std.proofs.Common.{inl, inr, refl, sym, ap, subst, ◌∙◌, arith, min}
use Rattle.std.specs.Prelude.{IfSome, IsSome, IsSomeAnd}
use Rattle.update_core.specs.declared.updates.Update.{Update}
use Rattle.store_core.specs.declared.shards.ShardId.{ShardId}
use Rattle.store_core.specs.declared.versions.Version.{Version}
use Rattle.store_core.specs.declared.calls.Call.TheVariants as calls
use Rattle.store_core.specs.declared.replies.Reply.{Reply}
use Rattle.store_core.specs.declared.entries.Entry.{Entry}
use Rattle.store_core.specs.Histories.{reply}
use Rattle.store_core.specs.Stores.{Stored}
use Rattle.store_core.specs.Ports.{Answered, OfOthers, answered}
use Rattle.store_core.specs.Newest.{mine_back, replay_back}
use Rattle.state_core.specs.declared.kinds.Kind.TheVariants.{Keeper}
use Rattle.state_core.specs.declared.transitions.Transition.{Transition}
use Rattle.state_core.specs.declared.transitions.Transition.TheVariants.{Join, Leave, Merge, Renew}
use Rattle.state_core.specs.Lists.{Among}
use Rattle.state_core.specs.States.{ShardState}
use Rattle.state_core.specs.Steps.{AreKeys, Spends}
use Rattle.update_core.specs.Limits.{most}
use Rattle.history_core.specs.declared.asked.Asked.{Asked}
use Rattle.history_core.specs.declared.asked.Asked.TheVariants as asks
use Rattle.history_core.specs.Discipline.{LawfulBack}
use Rattle.history_core.specs.Placing.{Placed, placed, places}
use Rattle.history_core.specs.Stands.{StandsFor}
use Rattle.history_core.specs.Upkeep.{TriesMerge}
use Rattle.history_core.proofs.Gaining.{mine_gained, places_gained}
use Rattle.load_core.specs.declared.nexts.Next.{Next}
use Rattle.load_core.specs.declared.nexts.Next.TheVariants as nexts
use Rattle.load_core.specs.declared.readies.Ready.{Ready}
use Rattle.load_core.specs.declared.tries.Tried.{Tried}
use Rattle.load_core.specs.declared.tries.Tried.TheVariants as tries
use Rattle.load_core.specs.declared.tryings.Trying.{Trying}
use Rattle.load_core.specs.Following.{FollowsTrying}
use Rattle.load_core.specs.Loading.{newest_after}
use Rattle.load_core.specs.Runs.{OnlyCarries}
use Rattle.load_core.specs.Setting as setting
use Rattle.load_core.specs.Trying as trying
use Rattle.load_core.proofs.Outcomes.{HowMoved, scanned, failed, cased, how_moved}
use Rattle.load_core.proofs.Runs.{Same, next_calls}
use Rattle.token_machine.specs.declared.storings.Storing.{Storing}
use Rattle.token_machine.specs.Following.{Draws, UsesToken}
use Rattle.token_machine.specs.Legality.{StoresAt}
use Rattle.token_machine.specs.Storings as storing
use Rattle.token_machine.proofs.LastCas.{storing_stays}
use Rattle.token_machine.proofs.Stepping.{draws_on, trying_moved, uses_none_above}
use Rattle.token_machine.proofs.Ways.{Way, call_false, carries, same, same_keys, set, try, way}
use Rattle.merge_core.specs.Drafting.{IsDraft}
use Rattle.merge_client.specs.declared.compactors.Compactor.{Compactor}
use Rattle.merge_client.specs.declared.dues.Due.{Due}
use Rattle.merge_client.specs.declared.pairs.Pair.{Pair}
use Rattle.merge_client.specs.Following.{Follows, FollowsAsked, FollowsDraft, FollowsMerge, IsPairOf, Tries, WasTried}
use Rattle.merge_client.specs.Merging.{IsReady, call_by, call_of, own_member, shard_of}
use Rattle.merge_client.proofs.Following.{if_map, pair_more}
use Rattle.merge_client.proofs.Going.{Asks, IsGoing, closes, going_out, keys_under, merges, none_left, opens, renews, step_of}

-- ---- one more entry

module _ (client : ℕ) (c : Compactor) (start : Stored) (list : List Update) (e : Entry) (others es : List Entry)
    (ready : IsReady c) (own : e.client ≡ client) (call_is : call_of c ≡ Some e.call) (of : OfOthers client others)
    (st : StandsFor start (shard_of c) list) (lawful : LawfulBack start (e ∷ (others ++ es))) (f : Follows client c start es)
    (none : c.reading.asked ≡ None) where
  abbrev here : Reply
  here = reply (replay_back start (others ++ es)) e

  abbrev was : List Answered
  was = mine_back start es client

  abbrev now : List Entry
  now = e ∷ (others ++ es)

  abbrev Mine : List Answered
  Mine = mine_back start now client

  mine : Mine ≡ answered e here ∷ was
  mine = mine_gained start client e others es own of

  pub call : storing.call_of c.storing ≡ Some e.call
  call = subst (λ (o : Option Due). call_by c o ≡ Some e.call) none call_is

  -- a merge stores parts under its token
  pub stores_at : (m : ℕ) → c.member ≡ Some m → 0 < c.token → FollowsDraft client c start es m →
      StoresAt Keeper m c.token c.storing client list start e others es
  stores_at m named pos h = record {
    sound = ready.sound.storing;
    own = own;
    call_is = call;
    of_others = of;
    stands = st;
    lawful = lawful;
    follows = f.trying;
    draws = (let d = f.member in subst (λ (o : Option ℕ). IfSome o (λ n. Draws Keeper (shard_of c) n c.token was)) named d);
    storing = h.storing;
    some_token = pos;
    spends = (let s = step_of client c start es m named h in
        subst (λ (x : Transition). Spends x m c.token) (sym s.1) (refl, refl));
    keys = keys_under client c start es m named h;
    seen = (let d = ready.sound.seen none in
        subst (λ (o : Option ℕ). IfSome o (λ n. IsSome c.storing.trying.loader.cached)) named d);
  }

  module _ (asked : Asked) (a : Asks client c start es asked) where
    -- its call uses no token above the last one drawn
    pub no_later : (m later : ℕ) → c.token < later → ¬ UsesToken (shard_of c) m later e.call
    no_later m later lt = uses_none_above c.storing e.call m c.token later ready.sound.storing call lt (keys a) (spent a)
      where
        keys : Asks client c start es asked → setting.IsOpen c.storing.setting → (n : ℕ) × AreKeys (shard_of c) n c.token 0
            c.storing.setting.keys
        keys (opens shard at lease is same t) left = absurd (none_left c t.no_keys left)
        keys (renews at n is named t) left = absurd (none_left c t.no_keys left)
        keys (closes n is named t) left = absurd (none_left c t.no_keys left)
        keys (merges n is named pos h) left = (n, keys_under client c start es n named h)

        by_step : (x : Transition) → c.storing.trying.step ≡ x → ¬ Spends x m later → ¬ Spends c.storing.trying.step m later
        by_step x is never h = never (subst (λ (y : Transition). Spends y m later) is h)

        spent : Asks client c start es asked → ¬ Spends c.storing.trying.step m later
        spent (opens shard at lease is same t) = by_step (Join Keeper at lease) t.step (λ h. h)
        spent (renews at n is named t) = by_step (Renew n at) t.step (λ h. h)
        spent (closes n is named t) = by_step (Leave n) t.step (λ h. h)
        spent (merges n is named pos h) =
            let s = step_of client c start es n named h in
            by_step (Merge n c.token h.of_pair.left h.of_pair.right s.0) s.1 (λ k. let q : c.token ≡ later = k.1 in
            absurd (omega (arith, q, lt)))

    pub member_now : IfSome c.member (λ n. Draws Keeper (shard_of c) n c.token Mine)
    member_now = if_map c.member (λ n. Draws Keeper (shard_of c) n c.token was) (λ n. Draws Keeper (shard_of c) n c.token Mine)
        (λ n h. draws_on client c.storing start e others es ready.sound.storing own call of Keeper (shard_of c) n c.token h (no_later n))
        f.member

    -- the command goes on
    module _ (s : Storing) (tried : Tried) (moves : storing.Moves c.storing here s tried) where
      abbrev v : Compactor
      v = record c { storing = s }

      stays : Same c.storing.trying s.trying
      stays = same c.storing s here tried moves

      pub tries_now : FollowsTrying s.trying Mine
      tries_now = trying_moved client c.storing start e others es ready.sound.storing own call of s tried f.trying moves

      -- what is known of earlier Cas stays so
      persist : (m : ℕ) (p : Pair) (k : ShardState) (t : Trying) → t.loader.shard ≡ shard_of c → t.calls ≡ trying.more c.storing.trying.calls →
          t.loader.cached ≡ c.storing.trying.loader.cached → (next : Next) → WasTried client c es m p k next →
          WasTried client (record c { storing = record s { trying = t } }) now m p k next
      persist m p k t shard calls_are cached nexts.Attempt h = absurd h
      persist m p k t shard calls_are cached (nexts.Cas r) h = tt
      persist m p k t shard calls_are cached nexts.Scan (inr h) = inr (cached ∙ h.0, h.1)
      persist m p k t shard calls_are cached nexts.Scan (inl h) = inl (λ lt.
          let one = next_calls c.storing.trying.calls t.calls calls_are lt in
          subst (λ (ps : List Placed). Among (λ q. TriesMerge t.loader.shard m c.token p.left p.right q.entry.call) ps)
          (sym (ap (λ (n : ℕ). places client n now) one ∙ places_gained client c.storing.trying.calls e others es own of))
          (subst (λ (d : ShardId). Among (λ q. TriesMerge d m c.token p.left p.right q.entry.call)
          (placed e (others ++ es) ∷ places client c.storing.trying.calls es)) (sym shard)
          (inr (h (omega (arith, one, lt))))))

      -- and one that was made now carries the merge
      still_tried : (m : ℕ) → c.member ≡ Some m → (h : FollowsDraft client c start es m) → IsGoing tried →
          WasTried client v now m h.of_pair h.state s.trying.next
      still_tried m named h go = by (way c.storing s here tried moves)
        where
          p : Pair
          p = h.of_pair

          seen : IsSome c.storing.trying.loader.cached
          seen = (let d = ready.sound.seen none in
              subst (λ (o : Option ℕ). IfSome o (λ n. IsSome c.storing.trying.loader.cached)) named d)

          At : Trying → Type 0
          At t = WasTried client (record c { storing = record s { trying = t } }) now m p h.state t.next

          -- its Cas
          made : (rd : Ready) → c.storing.trying.next ≡ nexts.Cas rd → e.call ≡ trying.call_of c.storing.trying →
              TriesMerge (shard_of c) m c.token p.left p.right e.call
          made rd next call_now = on c.storing.trying.loader.cached seen (subst (trying.IsReadyNext c.storing.trying.loader
              c.storing.trying.step) next ready.sound.storing.trying).0
            where
              cas : e.call ≡ calls.Cas (shard_of c) rd.expected rd.bytes
              cas = call_now ∙ ap (trying.call_by c.storing.trying.loader) next

              on : (o : Option ShardState) → IsSome o → trying.IsReadyAfter (shard_of c) o c.storing.trying.step rd →
                  TriesMerge (shard_of c) m c.token p.left p.right e.call
              on None some r = absurd (let bad : false ≡ true = some in cc)
              on (Some k) some r =
                  let cas2 : e.call ≡ calls.Cas (shard_of c) (Some k.number) rd.bytes = cas
                  ∙ ap (λ (n : Option ℕ). calls.Cas (shard_of c) n rd.bytes) r.expected_is in
                  let carried : OnlyCarries (shard_of c) c.storing.trying.step (calls.Cas (shard_of c) (Some k.number) rd.bytes) =
                  subst (OnlyCarries (shard_of c) c.storing.trying.step) cas2 (carries c.storing e.call ready.sound.storing call) in
                  let step = step_of client c start es m named h in
                  record {
                    expected = k.number;
                    bytes = rd.bytes;
                    to = carried.1.0;
                    merged = step.0;
                    call_is = cas2;
                    carries = carried.1.1 ∙ ap (λ (x : Transition). Some (carried.1.0, x)) step.1;
                  }

          cased_now : (rd : Ready) → c.storing.trying.next ≡ nexts.Cas rd → e.call ≡ trying.call_of c.storing.trying → (t : Trying) →
              t.loader ≡ c.storing.trying.loader → t.calls ≡ trying.more c.storing.trying.calls → t.next ≡ nexts.Scan → At t
          cased_now rd next call_now t loader calls_are scan = subst (λ (n : Next). WasTried client (record c {
            storing = record s { trying = t };
          }) now m p h.state n) (sym scan) (inl (λ lt.
              let one = next_calls c.storing.trying.calls t.calls calls_are lt in
              subst (λ (ps : List Placed). Among (λ q. TriesMerge t.loader.shard m c.token p.left p.right q.entry.call) ps)
              (sym (ap (λ (n : ℕ). places client n now) one ∙ places_gained client c.storing.trying.calls e others es own of))
              (inl (subst (λ (d : ShardId). TriesMerge d m c.token p.left p.right e.call)
              (sym (ap (λ (l : _). l.shard) loader)) (made rd next call_now)))))

          cas_kept : (rd : Ready) → c.storing.trying.next ≡ nexts.Cas rd → e.call ≡ trying.call_of c.storing.trying → (t : Trying) →
              (k : Tried) → IsGoing k → trying.MovesAfterCas (trying.asked (trying.called c.storing.trying) rd) rd here t k → At t
          cas_kept rd next call_now t tries.Begun g (answer, first, is) = absurd (on c.storing.trying.loader.cached seen
              (subst (trying.IsReadyNext c.storing.trying.loader c.storing.trying.step) next ready.sound.storing.trying).0)
            where
              on : (o : Option ShardState) → IsSome o → trying.IsReadyAfter (shard_of c) o c.storing.trying.step rd → ⊥
              on None some r = let bad : false ≡ true = some in cc
              on (Some k) some r = let bad : Some k.number ≡ None = sym r.expected_is ∙ first in cc
          cas_kept rd next call_now t tries.Again g (answer, other, is) = cased_now rd next call_now t
              (ap (λ (z : Trying). z.loader) is) (ap (λ (z : Trying). z.calls) is) (ap (λ (z : Trying). z.next) is)
          cas_kept rd next call_now t tries.Fault g (answer, is) = cased_now rd next call_now t
              (ap (λ (z : Trying). z.loader) is) (ap (λ (z : Trying). z.calls) is) (ap (λ (z : Trying). z.next) is)
          cas_kept rd next call_now t (tries.Committed version) g k = absurd g
          cas_kept rd next call_now t tries.Goes g k = absurd k
          cas_kept rd next call_now t (tries.Refused refusal) g k = absurd g
          cas_kept rd next call_now t tries.Spent g k = absurd g
          cas_kept rd next call_now t (tries.Damaged damage) g k = absurd g

          shown : (t : Trying) (k : Tried) → IsGoing k → (vs : List Version) → trying.ComesTo (newest_after (shard_of c)
              c.storing.trying.loader.cached vs) (trying.called c.storing.trying) t k → At t
          shown t tries.Goes g vs (newest, r, reads, after, is) =
              subst (λ (n : Next). WasTried client (record c { storing = record s { trying = t } }) now m p h.state n)
              (sym (ap (λ (z : Trying). z.next) is)) tt
          shown t tries.Begun g vs k = absurd k
          shown t tries.Again g vs k = absurd k
          shown t tries.Fault g vs k = absurd k
          shown t other g vs k = absurd g

          of_try : e.call ≡ trying.call_of c.storing.trying → (t : Trying) → HowMoved c.storing.trying t here tried → At t
          of_try call_now t (scanned vs idle answer k) = shown t tried go vs k
          of_try call_now t (failed idle answer is k) = scan c.storing.trying.next idle h.tried
            where
              scan : (n : Next) → trying.IsScanning n → WasTried client c es m p h.state n → At t
              scan nexts.Attempt i w = absurd w
              scan nexts.Scan i w = subst (λ (n : Next). WasTried client (record c { storing = record s { trying = t } }) now m p h.state n)
                  (sym (ap (λ (z : Trying). z.next) k))
                  (persist m p h.state t (ap (λ (z : Trying). z.loader.shard) k) (ap (λ (z : Trying). z.calls) k)
                  (ap (λ (z : Trying). z.loader.cached) k) nexts.Scan w)
              scan (nexts.Cas r) i w = absurd i
          of_try call_now t (cased rd next k) = cas_kept rd next call_now t tried go k

          by : Way c.storing here s tried → WasTried client v now m p h.state s.trying.next
          by (set q (x, progress, k, is, told)) = subst (λ (z : Storing). WasTried client (record c { storing = z }) now m p h.state z.trying.next)
              (sym is) (persist_set (record { trying = storing.counted c.storing.trying; setting = x }))
            where
              persist_set : (z : Storing) → WasTried client (record c { storing = record z { trying = storing.counted c.storing.trying } })
                  now m p h.state c.storing.trying.next
              persist_set z = go_on c.storing.trying.next h.tried
                where
                  go_on : (n : Next) → WasTried client c es m p h.state n → WasTried client (record c {
                    storing = record z {
                      trying = storing.counted c.storing.trying;
                    };
                  }) now m p h.state n
                  go_on nexts.Attempt w = absurd w
                  go_on nexts.Scan w = persist m p h.state (storing.counted c.storing.trying) refl refl refl nexts.Scan w
                  go_on (nexts.Cas r) w = tt
          by (try q (t, k, is)) = subst (λ (z : Storing). WasTried client (record c { storing = z }) now m p h.state z.trying.next) (sym is)
              (of_try (call_false c.storing e.call q call) t (how_moved c.storing.trying t here tried k))

      goes_merge : IsGoing tried → (m : ℕ) → 0 < c.token → c.member ≡ Some m → FollowsDraft client c start es m →
          FollowsDraft client v start now m
      goes_merge go m pos named h =
          let parts = same_keys c.storing s here tried moves in
          record {
            state = h.state;
            of_pair = h.of_pair;
            draft = h.draft;
            pair = subst (λ (d : ShardId). IsPairOf d m c.token Mine h.of_pair h.state) (sym stays.shard)
                (subst (λ (os : List Answered). IsPairOf (shard_of c) m c.token os h.of_pair h.state) (sym mine)
                (pair_more (shard_of c) m c.token (answered e here) was h.of_pair h.state h.pair));
            is_draft = subst (λ (d : ShardId). IsDraft (record { shard = d; member = own_member c; token = c.token }) h.of_pair.left
                h.of_pair.right h.of_pair.since h.of_pair.rows h.draft) (sym stays.shard) h.is_draft;
            step = stays.step ∙ h.step;
            keys = parts.0 ∙ h.keys;
            parts = parts.1 ∙ h.parts;
            called = (let one : s.trying.calls ≡ min (c.storing.trying.calls + 1) most = stays.calls in omega (arith, one));
            storing = storing_stays Keeper m c.token c.storing client list start e others es (stores_at m named pos h) s tried
                (going_out tried go) moves;
            tried = still_tried m named h go;
          }

      member_there : IfSome c.member (λ n. Draws Keeper s.trying.loader.shard n c.token Mine)
      member_there = subst (λ (d : ShardId). IfSome c.member (λ n. Draws Keeper d n c.token Mine)) (sym stays.shard) member_now

      pub try_goes : c.asked ≡ Some asked → IsGoing tried → Follows client v start now
      try_goes busy go = record {
        trying = tries_now;
        member = member_there;
        asked = subst (FollowsAsked client v start now) (sym busy) (by a);
      }
        where
          still : (x : Transition) → Tries c x → Tries v x
          still x t = record {
            step = stays.step ∙ t.step;
            no_keys = (same_keys c.storing s here tried moves).0 ∙ t.no_keys;
            undrafted = t.undrafted;
          }

          told : (b : Asked) → asked ≡ b → FollowsAsked client v start now (Some b) → FollowsAsked client v start now (Some asked)
          told b is h = subst (λ (z : Asked). FollowsAsked client v start now (Some z)) (sym is) h

          by : Asks client c start es asked → FollowsAsked client v start now (Some asked)
          by (opens shard at lease is same_shard t) = told (asks.OpenCompactor shard at lease) is
              (same_shard ∙ sym stays.shard, still (Join Keeper at lease) t)
          by (renews at n is named t) = told (asks.RenewCompactor at) is
              (subst (λ (o : Option ℕ). IsSomeAnd o (λ k. Tries v (Renew k at))) (sym named) (still (Renew n at) t))
          by (closes n is named t) = told asks.CloseCompactor is
              (subst (λ (o : Option ℕ). IsSomeAnd o (λ k. Tries v (Leave k))) (sym named) (still (Leave n) t))
          by (merges n is named pos h) = told asks.Merge is
              (subst (λ (o : Option ℕ). IsSomeAnd o (λ k. (0 < c.token) × FollowsMerge client v start now k c.reading.asked c.pair))
              (sym named) (
                pos,
                subst (λ (o : Option Due). FollowsMerge client v start now n o c.pair) (sym none)
                    (subst (λ (o : Option Pair). FollowsMerge client v start now n None o) (sym ready.drafted)
                    (goes_merge go n pos named h)),
              ))

      -- it is over, and the member is as it was, or none, or has joined
      pub try_over : (member : Option ℕ) → IfSome member (λ n. Draws Keeper s.trying.loader.shard n c.token Mine) →
          Follows client (record v { asked = None; member = member }) start now
      try_over member h = record { trying = tries_now; member = h; asked = ready.drafted }

      pub over_same : Follows client (record v { asked = None }) start now
      over_same = try_over c.member member_there
