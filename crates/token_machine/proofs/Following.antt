-- Parts and a transition follow from their client's own entries when they begin, once they are prepared, and past entries of others.
use Rattle.std.proofs.Common.{◌≡◌, ℕ, zero, suc, ◌<◌, Some, None, List, [], ◌∷◌, ◌++◌, take, drop, inl, inr, sym, ap, subst}
use Rattle.std.proofs.Common.{◌∙◌, refl, Option, Some, None}
use Rattle.std.specs.List.{AllByRecursion, slice_get, zip}
use Rattle.store_core.specs.declared.shards.ShardId.{ShardId}
use Rattle.store_core.specs.declared.part_keys.PartKey.{PartKey}
use Rattle.store_core.specs.declared.calls.Call.{Call}
use Rattle.store_core.specs.declared.calls.Call.TheVariants as calls
use Rattle.store_core.specs.declared.entries.Entry.{Entry}
use Rattle.store_core.specs.Stores.{Stored}
use Rattle.store_core.specs.Ports.{Answered, OfOthers}
use Rattle.store_core.specs.Newest.{mine_back}
use Rattle.state_core.specs.Lists.{Among}
use Rattle.state_core.specs.Steps.{AreKeys}
use Rattle.update_core.specs.Limits.{most}
use Rattle.state_core.proofs.ListLemmas.{among_map}
use Rattle.history_core.specs.Discipline.{IsCasUnder, Owns, StoredAs}
use Rattle.history_core.specs.Placing.{Placed, places}
use Rattle.history_core.proofs.Gaining.{mine_others, places_others}
use Rattle.load_core.specs.declared.nexts.Next.{Next}
use Rattle.load_core.specs.declared.nexts.Next.TheVariants as nexts
use Rattle.load_core.specs.declared.settings.Setting.{Setting}
use Rattle.load_core.specs.declared.tryings.Trying.{Trying}
use Rattle.load_core.specs.Trying as trying
use Rattle.load_core.specs.PartsFollowing.{IsSettable, IsStoredSoFar, SetsAs}
use Rattle.load_core.specs.Runs.{AllCarry, OnlyCarries}
use Rattle.token_machine.specs.declared.storings.Storing.{Storing}
use Rattle.token_machine.specs.Following.{CommitsLast, FollowsStoring, IsAfter, IsLastCas, IsSetUnder, UsesToken}
use Rattle.token_machine.specs.Storings.{Prepares}
use Rattle.token_machine.proofs.Spendings.{own_others}
use Rattle.token_machine.proofs.Unspent.{unused_unspent}
use Rattle.token_machine.proofs.Ways.{prepares_same}

-- ---- the keys of a token

pub key_under : (shard : ShardId) (member token i n : ℕ) (keys : List PartKey) (k : PartKey) → AreKeys shard member token i keys →
    slice_get keys n ≡ Some k → (k.shard ≡ shard) × (k.member ≡ member) × (k.token ≡ token)
key_under shard member token i n [] k h e = absurd (let bad : None ≡ Some k = e in cc)
key_under shard member token i zero (q ∷ qs) k h e =
    let same : q ≡ k = cc in
    let is : k ≡ record { shard = shard; member = member; token = token; index = i } = sym same ∙ h.0 in
    (ap (λ (j : PartKey). j.shard) is, ap (λ (j : PartKey). j.member) is, ap (λ (j : PartKey). j.token) is)
key_under shard member token i (suc n) (q ∷ qs) k h e = key_under shard member token (suc i) n qs k h.1 e

-- where nothing was set under a token, no Set of its keys has other bytes
unset_as : (shard : ShardId) (member token : ℕ) (s : Setting) (call : Call) → AreKeys shard member token 0 s.keys →
    (¬ IsSetUnder shard member token call) → SetsAs s call
unset_as shard member token s (calls.Set k b) keys none = λ i e. absurd (none (key_under shard member token 0 i s.keys k keys e))
unset_as shard member token s other keys none = tt

all_unset : (shard : ShardId) (member token : ℕ) (s : Setting) (own : List Answered) → AreKeys shard member token 0 s.keys →
    (¬ Among (λ o. UsesToken shard member token o.entry.call) own) → AllByRecursion (λ o. SetsAs s o.entry.call) own
all_unset shard member token s [] keys none = tt
all_unset shard member token s (o ∷ os) keys none = (
  unset_as shard member token s o.entry.call keys (λ h. none (inl (inl h))),
  all_unset shard member token s os keys (λ h. none (inr h)),
)

none_dropped : {A : Type 0} (P : A → Type 0) (n : ℕ) (xs : List A) → (¬ Among P xs) → ¬ Among P (drop n xs)
none_dropped P zero xs none = none
none_dropped P (suc n) [] none = none
none_dropped P (suc n) (x ∷ xs) none = none_dropped P n xs (λ h. none (inr h))

-- ---- a begin

-- what was begun under a token that wasn't used follows, where none of the command's calls before it was a Cas
pub storing_begun : (client member token : ℕ) (s : Storing) (start : Stored) (es : List Entry) →
    Owns (mine_back start es client) s.trying.loader.shard member → AreKeys s.trying.loader.shard member token 0 s.setting.keys →
    s.setting.place ≡ 0 → (¬ Among (λ o. UsesToken s.trying.loader.shard member token o.entry.call) (mine_back start es client)) →
    (s.trying.calls < most → AllCarry s.trying client es) →
    (s.trying.calls < most → AllByRecursion (λ p. IsAfter p.entry.call) (places client s.trying.calls es)) →
    (s.trying.calls < most → AllByRecursion (CommitsLast start s.trying.loader.shard s.trying.next s.trying.tried)
    (places client s.trying.calls es)) →
    FollowsStoring client member token s start es
storing_begun client member token s start es owned keys unset unused carry after last = record {
  stored = subst (λ (n : ℕ). AllByRecursion (λ p. StoredAs own p.0 p.1) (take n (zip s.setting.keys s.setting.parts)))
      (sym unset) tt;
  settable = λ left. record {
    owned = owned;
    fresh = fresh;
    same = all_unset s.trying.loader.shard member token s.setting own keys unused;
    keys = keys;
  };
  fresh = λ lt. none_dropped (λ (o : Answered).
      IsCasUnder s.trying.loader.shard member token o.entry.call) s.trying.calls own fresh;
  carry = carry;
  after = after;
  last = last;
  unspent = λ fine. unused_unspent start s.trying.loader.shard client member token es fresh;
}
  where
    own : List Answered
    own = mine_back start es client

    fresh : ¬ Among (λ o. IsCasUnder s.trying.loader.shard member token o.entry.call) own
    fresh h = unused (among_map (λ o. IsCasUnder s.trying.loader.shard member token o.entry.call)
        (λ o. UsesToken s.trying.loader.shard member token o.entry.call) own (λ o q. inr q) h)

-- ---- before a call

-- the last Cas stays so
pub last_on : (start : Stored) (shard : ShardId) (next next2 : Next) (tried tried2 : Option ℕ) →
    ((n : Option ℕ) → IsLastCas next tried n → IsLastCas next2 tried2 n) → (ps : List Placed) →
    AllByRecursion (CommitsLast start shard next tried) ps → AllByRecursion (CommitsLast start shard next2 tried2) ps
last_on start shard next next2 tried tried2 on [] h = tt
last_on start shard next next2 tried tried2 on (p ∷ ps) h =
    ((λ c. on c.expected (h.0 c)), last_on start shard next next2 tried tried2 on ps h.1)

pub to_scan : (next : Next) (tried : Option ℕ) → trying.IsScanning next → (n : Option ℕ) → IsLastCas next tried n →
    IsLastCas nexts.Scan tried n
to_scan nexts.Attempt tried idle n h = absurd h
to_scan nexts.Scan tried idle n h = h
to_scan (nexts.Cas r) tried idle n h = absurd idle

-- preparing changes no Scan that comes next
prepared_on : (old new : Storing) → Prepares old new → (n : Option ℕ) → IsLastCas old.trying.next old.trying.tried n →
    IsLastCas new.trying.next old.trying.tried n
prepared_on old new (t, p, is) n h = subst (λ (z : Storing). IsLastCas z.trying.next old.trying.tried n) (sym is)
    (go old.trying.next refl p h)
  where
    go : (next : Next) → old.trying.next ≡ next → trying.PreparesBy next old.trying t → IsLastCas next old.trying.tried n →
        IsLastCas t.next old.trying.tried n
    go nexts.Attempt e q k = absurd k
    go nexts.Scan e q k = subst (λ (z : Trying). IsLastCas z.next old.trying.tried n) (sym q)
        (subst (λ (m : Next). IsLastCas m old.trying.tried n) (sym e) k)
    go (nexts.Cas r) e q k = absurd k

pub storing_prepared : (client member token : ℕ) (old new : Storing) (start : Stored) (es : List Entry) → Prepares old new →
    FollowsStoring client member token old start es → FollowsStoring client member token new start es
storing_prepared client member token old new start es prepares h =
    subst (λ (z : Storing). FollowsStoring client member token z start es) (sym (prepares_same old new prepares)) (record {
      stored = h.stored;
      settable = h.settable;
      fresh = h.fresh;
      carry = h.carry;
      after = h.after;
      last = λ lt. last_on start old.trying.loader.shard old.trying.next new.trying.next old.trying.tried old.trying.tried
          (λ n is. prepared_on old new prepares n is) (places client old.trying.calls es) (h.last lt);
      unspent = h.unspent;
    })

-- ---- past entries of others

pub storing_past : (client member token : ℕ) (s : Storing) (start : Stored) (others es : List Entry) → OfOthers client others →
    FollowsStoring client member token s start es → FollowsStoring client member token s start (others ++ es)
storing_past client member token s start others es of h = record {
  stored = subst (λ (os : List Answered). IsStoredSoFar os s.setting) (sym mine) h.stored;
  settable = λ left. subst (λ (os : List Answered). IsSettable os s.trying.loader.shard member token s.setting) (sym mine)
      (h.settable left);
  fresh = λ lt. subst (λ (os : List Answered). ¬ Among (λ (o : Answered).
      IsCasUnder s.trying.loader.shard member token o.entry.call)
      (drop s.trying.calls os)) (sym mine) (h.fresh lt);
  carry = λ lt. subst (λ (ps : List Placed). AllByRecursion (λ p.
      OnlyCarries s.trying.loader.shard s.trying.step p.entry.call) ps) (sym place)
      (h.carry lt);
  after = λ lt. subst (λ (ps : List Placed). AllByRecursion (λ p. IsAfter p.entry.call) ps) (sym place) (h.after lt);
  last = λ lt. subst (λ (ps : List Placed). AllByRecursion
      (CommitsLast start s.trying.loader.shard s.trying.next s.trying.tried) ps) (sym place)
      (h.last lt);
  unspent = λ fine. own_others start s.trying.loader.shard client member token others es of ∙ h.unspent fine;
}
  where
    mine : mine_back start (others ++ es) client ≡ mine_back start es client
    mine = mine_others start client others es of

    place : places client s.trying.calls (others ++ es) ≡ places client s.trying.calls es
    place = places_others client s.trying.calls others es of
