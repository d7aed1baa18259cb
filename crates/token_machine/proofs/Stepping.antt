-- Parts and a transition follow from their client's own entries also after one more. Entries go newest first.
use Rattle.std.proofs.Common.{◌≡◌, ℕ, suc, ◌+◌, ◌<◌, true, false, Option, Some, None, List, [], ◌∷◌, ◌++◌, length, drop, inl}
use Rattle.std.proofs.Common.{inr, refl, sym, ap, subst, ◌∙◌, arith}
use Rattle.std.specs.Prelude.{⊤, IsSome, nat_lt}
use Rattle.std.specs.List.{AllByRecursion}
use Rattle.std.proofs.lemmas.Bool.Decides.{nat_tests}
use Rattle.store_core.specs.declared.shards.ShardId.{ShardId}
use Rattle.store_core.specs.declared.part_keys.PartKey.{PartKey}
use Rattle.store_core.specs.declared.calls.Call.{Call}
use Rattle.store_core.specs.declared.calls.Call.TheVariants as calls
use Rattle.store_core.specs.declared.entries.Entry.{Entry}
use Rattle.store_core.specs.Histories.{reply}
use Rattle.store_core.specs.Stores.{Stored}
use Rattle.store_core.specs.Ports.{Answered, OfOthers, answered}
use Rattle.store_core.specs.Newest.{replay_back, mine_back}
use Rattle.state_core.specs.declared.kinds.Kind.{Kind}
use Rattle.state_core.specs.declared.transitions.Transition.{Transition}
use Rattle.state_core.specs.Lists.{Among}
use Rattle.state_core.specs.States.{ShardState}
use Rattle.state_core.specs.Steps.{AreKeys, Spends}
use Rattle.version_codec.specs.Reading.{version_in}
use Rattle.update_core.specs.Limits.{most}
use Rattle.state_core.proofs.ListLemmas.{bool_cases}
use Rattle.history_core.specs.Discipline.{IsCasUnder, SpendsIn, StoredAs}
use Rattle.history_core.specs.Members.{IsLeave, LeavesIn}
use Rattle.history_core.specs.Placing.{Placed, placed, places}
use Rattle.history_core.specs.Spending.{is_commit_under, own_commits}
use Rattle.history_core.proofs.Gaining.{mine_gained, places_gained}
use Rattle.load_core.specs.declared.nexts.Next.{Next}
use Rattle.load_core.specs.declared.nexts.Next.TheVariants as nexts
use Rattle.load_core.specs.declared.readies.Ready.{Ready}
use Rattle.load_core.specs.declared.tries.Tried.{Tried}
use Rattle.load_core.specs.declared.tryings.Trying.{Trying}
use Rattle.load_core.specs.Following.{FollowsTrying}
use Rattle.load_core.specs.Loading.{scan_of}
use Rattle.load_core.specs.PartsFollowing.{IsSettable, IsStoredSoFar, SetsAs}
use Rattle.load_core.specs.Runs.{IsNotIn, OnlyCarries}
use Rattle.load_core.specs.Setting as setting
use Rattle.load_core.specs.Trying as trying
use Rattle.load_core.proofs.Following.{shows_on, with_newest}
use Rattle.load_core.proofs.Outcomes.{follows_called, follows_gained, scan_call}
use Rattle.load_core.proofs.Runs.{Same, moves_same, next_calls}
use Rattle.load_core.proofs.SettingFollows.{next_is, still_settable, still_stored}
use Rattle.token_machine.specs.declared.storings.Storing.{Storing}
use Rattle.token_machine.specs.Following.{CommitsLast, Draws, FollowsStoring, IsAfter, UsesToken}
use Rattle.token_machine.specs.Storings.{IsSound, Moves, call_of, called, counted, sets, sets_before}
use Rattle.token_machine.proofs.Following.{key_under, last_on, to_scan}
use Rattle.token_machine.proofs.Unspent.{scan_none, set_none, tried_none, unspent_on}
use Rattle.token_machine.proofs.Ways.{Way, call_false, call_true, carries, scans_call, scans_first, set, sets_open, try, way}

-- ---- what a call uses

-- no Set
abbrev IsNoSet : Call → Type 0
IsNoSet (calls.Set k b) = ⊥
IsNoSet _ = ⊤

tried_no_set : (t : Trying) → IsNoSet (trying.call_of t)
tried_no_set t = go t.next
  where
    go : (next : Next) → IsNoSet (trying.call_by t.loader next)
    go nexts.Attempt = tt
    go nexts.Scan = tt
    go (nexts.Cas r) = tt

-- a Cas uses a token that its transition spends
carried_uses : (shard : ShardId) (step : Transition) (member token : ℕ) (call : Call) → OnlyCarries shard step call →
    IsNoSet call →
    ¬ Spends step member token → ¬ UsesToken shard member token call
carried_uses shard step member token (calls.Cas at (Some n) bytes) c free none (inl h) = h
carried_uses shard step member token (calls.Cas at (Some n) bytes) c free none (inr h) =
    let written : version_in shard (n + 1) bytes ≡ Some (c.1.0, step) = c.1.1 in
    none (let spends : Spends step member token = subst (λ (o : Option (ShardState × Transition)).
    SpendsIn o member token) written h.1 in spends)
carried_uses shard step member token (calls.Cas at None bytes) c free none (inl h) = h
carried_uses shard step member token (calls.Cas at None bytes) c free none (inr h) = h
carried_uses shard step member token (calls.Set k b) c free none h = free
carried_uses shard step member token other c free none (inl h) = h
carried_uses shard step member token other c free none (inr h) = h

-- and leaves a member that its transition leaves
pub carried_leaves : (shard : ShardId) (step : Transition) (member : ℕ) (call : Call) → OnlyCarries shard step call →
    ((s : ShardState) → ¬ LeavesIn (Some (s, step)) member) → ¬ IsLeave shard member call
carried_leaves shard step member (calls.Cas at (Some n) bytes) c none h =
    let written : version_in shard (n + 1) bytes ≡ Some (c.1.0, step) = c.1.1 in
    none c.1.0 (subst (λ (o : Option (ShardState × Transition)). LeavesIn o member) written h.1)
carried_leaves shard step member other c none h = h

-- it uses no token above that of its parts and its transition
pub uses_none_above : (s : Storing) (call : Call) (member token later : ℕ) → IsSound s → call_of s ≡ Some call → token < later →
    (setting.IsOpen s.setting → (m : ℕ) × AreKeys s.trying.loader.shard m token 0 s.setting.keys) →
    (¬ Spends s.trying.step member later) →
    ¬ UsesToken s.trying.loader.shard member later call
uses_none_above s call member token later sound call_is lt keys none = elim
    (bool_cases (sets s)) [ inl h ↦ after_set h | inr h ↦ after_try h ]
  where
    after_try : sets s ≡ false → ¬ UsesToken s.trying.loader.shard member later call
    after_try h = carried_uses s.trying.loader.shard s.trying.step member later call (carries s call sound call_is)
        (subst IsNoSet (sym (call_false s call h call_is)) (tried_no_set s.trying)) none

    after_set : sets s ≡ true → ¬ UsesToken s.trying.loader.shard member later call
    after_set h used =
        let n = next_is s.setting call (call_true s call h call_is) in
        let (m, are) = keys (sets_open s.trying.next s.setting h) in
        let under = key_under s.trying.loader.shard m token 0 s.setting.place s.setting.keys n.key are n.key_is in
        on n.key n.bytes under.2 (subst (UsesToken s.trying.loader.shard member later) n.call_is used)
      where
        on : (k : PartKey) (b : List ℕ) → k.token ≡ token → UsesToken s.trying.loader.shard member later (calls.Set k b) → ⊥
        on k b is (inl u) = let same : k.token ≡ later = u.2 in omega arith
        on k b is (inr u) = u

-- where a state was seen a Cas comes after a version
tried_after : (t : Trying) → trying.IsSound t → IsSome t.loader.cached → IsAfter (trying.call_of t)
tried_after t sound some = go t.next sound
  where
    on : (r : Ready) (c : Option ShardState) → t.loader.cached ≡ c → IsSome c → trying.IsReadyAfter t.loader.shard c t.step r →
        IsAfter (calls.Cas t.loader.shard r.expected r.bytes)
    on r None cached o first = absurd (let bad : false ≡ true = o in cc)
    on r (Some s) cached o ready = subst (λ (n : Option ℕ). IsAfter (calls.Cas t.loader.shard n r.bytes))
        (sym ready.expected_is) tt

    go : (next : Next) → trying.IsReadyNext t.loader t.step next → IsAfter (trying.call_by t.loader next)
    go nexts.Attempt h = tt
    go nexts.Scan h = tt
    go (nexts.Cas r) h = on r t.loader.cached refl some h.0

-- ---- one more entry

module _ (client : ℕ) (s : Storing) (start : Stored) (e : Entry) (others es : List Entry) (sound : IsSound s)
    (own_entry : e.client ≡ client)
    (call_is : call_of s ≡ Some e.call) (of : OfOthers client others) where
  -- the client's entries before it
  abbrev Mine : List Answered
  Mine = mine_back start es client

  -- and it with its reply
  abbrev This : Answered
  This = answered e (reply (replay_back start (others ++ es)) e)

  gained : mine_back start (e ∷ (others ++ es)) client ≡ This ∷ Mine
  gained = mine_gained start client e others es own_entry of

  -- ---- the member

  pub draws_on : (kind : Kind) (shard : ShardId) (m token : ℕ) → Draws kind shard m token Mine →
      ((later : ℕ) → token < later → ¬ UsesToken shard m later e.call) → Draws kind shard m token
      (mine_back start (e ∷ (others ++ es)) client)
  draws_on kind shard m token h uses = subst (Draws kind shard m token) (sym gained) (record {
    joined = inr h.joined;
    drawn = λ later lt k. elim k [ inl here ↦ uses later lt here | inr there ↦ h.drawn later lt there ];
  })

  -- ---- the transition

  pub trying_moved : (new : Storing) (tried : Tried) → FollowsTrying s.trying Mine → Moves s This.reply new tried →
      FollowsTrying new.trying (mine_back start (e ∷ (others ++ es)) client)
  trying_moved new tried f moves = by (way s new This.reply tried moves)
    where
      by : Way s This.reply new tried → FollowsTrying new.trying (mine_back start (e ∷ (others ++ es)) client)
      by (set h (p, progress, m, n, is)) =
          subst (λ (z : Storing). FollowsTrying z.trying (mine_back start (e ∷ (others ++ es)) client)) (sym n)
          (subst (λ (os : List Answered). FollowsTrying (counted s.trying) os) (sym gained)
          (with_newest s.trying (counted s.trying) This Mine f refl refl
          (shows_on This Mine s.trying.loader.shard s.trying.loader.cached f.shown)))
      by (try h (t, m, n)) = subst (λ (z : Storing). FollowsTrying z.trying (mine_back start (e ∷ (others ++ es)) client)) (sym n)
          (follows_gained s.trying t client tried start e others es sound.trying own_entry (call_false s e.call h call_is) of f m)

  pub trying_called : FollowsTrying s.trying Mine → FollowsTrying (trying.called s.trying)
      (mine_back start (e ∷ (others ++ es)) client)
  trying_called f = follows_called s.trying (trying.called s.trying) client start e others es own_entry of f refl

  -- ---- the parts

  module _ (m token : ℕ) (h : FollowsStoring client m token s start es) (seen : IsSome s.trying.loader.cached) where
    abbrev On : Storing → Type 0
    On new = FollowsStoring client m token new start (e ∷ (others ++ es))

    after_call : IsAfter e.call
    after_call = elim (bool_cases (sets s)) [
      | inl q ↦ let n = next_is s.setting e.call (call_true s e.call q call_is) in subst IsAfter (sym n.call_is) tt
      | inr q ↦ subst IsAfter (sym (call_false s e.call q call_is)) (tried_after s.trying sound.trying seen)
    ]

    -- this entry and the older ones are the last Cas where they commit
    abbrev LastOn : Storing → Type 0
    LastOn new = s.trying.calls < most → AllByRecursion (CommitsLast start s.trying.loader.shard new.trying.next new.trying.tried)
        (placed e (others ++ es) ∷ places client s.trying.calls es)

    storing_on : (new : Storing) → Same s.trying new.trying →
        (new.trying.failed ≡ false → is_commit_under (replay_back start
        (others ++ es)) s.trying.loader.shard m token e e.call ≡ false) →
        IsStoredSoFar (This ∷ Mine) new.setting →
        (setting.IsOpen new.setting → IsSettable (This ∷ Mine) s.trying.loader.shard m token new.setting) → LastOn new → On new
    storing_on new same quiet stored settable last = record {
      stored = subst (λ (os : List Answered). IsStoredSoFar os new.setting) (sym gained) stored;
      settable = λ left. subst (λ (os : List Answered). IsSettable os new.trying.loader.shard m token new.setting) (sym gained)
          (subst (λ (d : ShardId). IsSettable (This ∷ Mine) d m token new.setting) (sym same.shard) (settable left));
      fresh = λ lt. subst (λ (os : List Answered). ¬ Among (λ (o : Answered).
          IsCasUnder new.trying.loader.shard m token o.entry.call)
          (drop new.trying.calls os)) (sym gained)
          (subst (λ (n : ℕ). ¬ Among (λ (o : Answered). IsCasUnder new.trying.loader.shard m token o.entry.call)
          (drop n (This ∷ Mine)))
          (sym (one lt))
          (subst (λ (d : ShardId). ¬ Among (λ (o : Answered). IsCasUnder d m token o.entry.call) (drop s.trying.calls Mine))
          (sym same.shard)
          (h.fresh (before lt))));
      carry = λ lt. subst (λ (ps : List Placed). AllByRecursion (λ p.
          OnlyCarries new.trying.loader.shard new.trying.step p.entry.call) ps)
          (sym (entries lt))
          (subst (λ (x : Transition). AllByRecursion (λ p. OnlyCarries new.trying.loader.shard x p.entry.call) More)
          (sym same.step)
          (subst (λ (d : ShardId). AllByRecursion (λ p. OnlyCarries d s.trying.step p.entry.call) More) (sym same.shard)
          (carries s e.call sound call_is, h.carry (before lt))));
      after = λ lt. subst (λ (ps : List Placed). AllByRecursion (λ p. IsAfter p.entry.call) ps) (sym (entries lt))
          (after_call, h.after (before lt));
      last = λ lt. subst (λ (ps : List Placed). AllByRecursion
          (CommitsLast start new.trying.loader.shard new.trying.next new.trying.tried) ps)
          (sym (entries lt)) (subst (λ (d : ShardId). AllByRecursion
          (CommitsLast start d new.trying.next new.trying.tried) More) (sym same.shard)
          (last (before lt)));
      unspent = λ good. subst (λ (d : ShardId). own_commits start d client m token (e ∷ (others ++ es)) ≡ 0) (sym same.shard)
          (unspent_on start s.trying.loader.shard client m token e others es of (quiet good) (h.unspent (same.failed good)));
    }
      where
        More : List Placed
        More = placed e (others ++ es) ∷ places client s.trying.calls es

        one : new.trying.calls < most → new.trying.calls ≡ suc s.trying.calls
        one lt = next_calls s.trying.calls new.trying.calls same.calls lt

        before : new.trying.calls < most → s.trying.calls < most
        before lt = let is = one lt in omega arith

        entries : new.trying.calls < most → places client new.trying.calls (e ∷ (others ++ es)) ≡ More
        entries lt = ap (λ (n : ℕ). places client n (e ∷ (others ++ es))) (one lt) ∙
            places_gained client s.trying.calls e others es own_entry of

    -- parts that are settable stay so after a Scan, which comes where one is left
    settable_on : sets s ≡ false → setting.IsOpen s.setting → IsSettable (This ∷ Mine) s.trying.loader.shard m token s.setting
    settable_on unset left =
        let scan : e.call ≡ scan_of s.trying.loader = call_false s e.call unset call_is ∙ scan_call s.trying
        (scans s.trying.next refl) in
        let now = h.settable left in
        record {
          owned = inr now.owned;
          fresh = λ k. elim k [
            | inl here ↦
                let bad : IsCasUnder s.trying.loader.shard m token (scan_of s.trying.loader) =
                subst (IsCasUnder s.trying.loader.shard m token) scan here in bad
            | inr there ↦ now.fresh there
          ];
          same = (subst (SetsAs s.setting) (sym scan) tt, now.same);
          keys = now.keys;
        }
      where
        scans : (next : Next) → s.trying.next ≡ next → trying.IsScanning next
        scans nexts.Attempt q = tt
        scans nexts.Scan q = tt
        scans (nexts.Cas r) q =
            let test : nat_lt s.setting.place (length s.setting.keys) ≡ false = subst
            (λ (n : Next). sets_before n s.setting ≡ false) q unset in
            absurd (not_less s.setting.place (length s.setting.keys) test left)
          where
            not_less : (a b : ℕ) → nat_lt a b ≡ false → a < b → ⊥
            not_less a b h lt = grind (arith, nat_tests)

    -- the parts that were stored stay so
    stored_on : (ps : List (PartKey × List ℕ)) → AllByRecursion (λ p. StoredAs Mine p.0 p.1) ps →
        AllByRecursion (λ p. StoredAs (This ∷ Mine) p.0 p.1) ps
    stored_on [] all = tt
    stored_on (p ∷ ps) all = (inr all.0, stored_on ps all.1)

    -- while the command goes on, and where it ends without a commit
    pub storing_moved : (new : Storing) (tried : Tried) → LastOn new → IsNotIn tried → Moves s This.reply new tried → On new
    storing_moved new tried last out moves = by (way s new This.reply tried moves)
      where
        by : Way s This.reply new tried → On new
        by (set q (p, progress, m_is, n, is)) = subst On (sym n)
            (let set_is = call_true s e.call q call_is in
            let at = next_is s.setting e.call set_is in
            let after : Storing = record { trying = counted s.trying; setting = p } in
            storing_on after (record { shard = refl; step = refl; calls = refl; failed = λ z. z })
            (λ good. set_none (replay_back start (others ++ es)) s.trying.loader.shard m token e at.key at.bytes at.call_is)
            (still_stored Mine s.setting p This progress h.stored set_is m_is)
            (λ still. still_settable Mine s.trying.loader.shard m token s.setting p This progress
            (h.settable (sets_open s.trying.next s.setting q))
            set_is m_is) (subst LastOn n last))
        by (try q (t, m_is, n)) = subst On (sym n)
            (let call = call_false s e.call q call_is in
            let after : Storing = record { trying = t; setting = s.setting } in
            storing_on after (moves_same s.trying t This.reply tried m_is)
            (λ good. tried_none (replay_back start (others ++ es)) m token e s.trying t tried call out m_is good)
            (stored_on (setting.set_so_far s.setting) h.stored) (settable_on q) (subst LastOn n last))

    -- and after want of memory
    pub storing_called : trying.IsScanning s.trying.next → On (called s)
    storing_called idle =
        let scan = scans_call s e.call idle call_is in
        let same : Same s.trying (trying.called s.trying) = record { shard = refl; step = refl; calls = refl; failed = λ z. z } in
        storing_on (called s) same
        (λ good. scan_none (replay_back start (others ++ es)) m token e s.trying (scan ∙ sym (scan_call s.trying idle)) idle)
        (stored_on (setting.set_so_far s.setting) h.stored) (settable_on (scans_first s.trying.next s.setting idle))
        (λ lt. (
          (λ c. absurd (let bad : scan_of s.trying.loader ≡ calls.Cas s.trying.loader.shard c.expected c.bytes = sym scan ∙
              c.call_is in cc)),
          last_on start s.trying.loader.shard s.trying.next nexts.Scan s.trying.tried s.trying.tried
              (to_scan s.trying.next s.trying.tried idle)
              (places client s.trying.calls es) (h.last lt),
        ))
