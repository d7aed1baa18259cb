-- An owned member's token tells that exactly one entry of the command committed.
use Rattle.std.proofs.Common.{◌≡◌, ℕ, zero, suc, ◌+◌, ◌<◌, Bool, true, false, List, [], ◌∷◌, ◌⊎◌, inl, inr, refl, arith, subst, sym, ap, ◌∙◌, eqb, Some, None, Option, drop}
use Rattle.std.proofs.lemmas.Bool.{eqb-true, eq-eqb}
use Rattle.std.specs.Prelude.{⊤}
use Rattle.state_core.specs.Lists.{Among}
use Rattle.state_core.proofs.ListLemmas.{bool_cases}
use Rattle.store_core.specs.declared.shards.ShardId.{ShardId}
use Rattle.store_core.specs.declared.calls.Call.{Call}
use Rattle.store_core.specs.declared.calls.Call.TheVariants as calls
use Rattle.store_core.specs.declared.entries.Entry.{Entry}
use Rattle.store_core.specs.Changes.{commits}
use Rattle.store_core.specs.Stores.{Stored}
use Rattle.store_core.specs.Ports.{Answered}
use Rattle.store_core.specs.Newest.{replay_back, mine_back}
use Rattle.state_core.specs.declared.transitions.Transition.{Transition}
use Rattle.state_core.specs.declared.transitions.Transition.TheVariants.{Init, Join, Leave, Renew, Advance, Expire, Append, Merge}
use Rattle.state_core.specs.States.{ShardState}
use Rattle.state_core.specs.Steps.{Spends, acts_for}
use Rattle.version_codec.specs.Reading.{version_in}
use Rattle.history_core.specs.Histories.{ever}
use Rattle.history_core.specs.Discipline.{IsJoin, Owns, OwnsSome, SpendsIn, IsCasUnder, Allows, LawfulBack}
use Rattle.history_core.specs.Spending.{is_spending, is_commit_under, commits_under}
use Rattle.history_core.specs.Placing.{placed, places, OnlyOne, CommitsUnder}
use Rattle.history_core.proofs.Logs.{and_true}
use Rattle.history_core.proofs.Entries.{shard_eq, shard_same, mine_older, mine_newest, lawful_newest, lawful_older}
use Rattle.history_core.proofs.Owners.{CommitBy, CommitsFirst, commit_of}

spends_in : (o : Option (ShardState × Transition)) (member token : ℕ) → is_spending o member token ≡ true → SpendsIn o member token
spends_in (Some (s, Append a b c d e f g)) member token h = let (p, q) = and_true (eqb a member) (eqb b token) h in (eqb-true a member p, eqb-true b token q)
spends_in (Some (s, Merge a b c d e)) member token h = let (p, q) = and_true (eqb a member) (eqb b token) h in (eqb-true a member p, eqb-true b token q)
spends_in (Some (s, Init)) member token h = cc
spends_in (Some (s, Join a b c)) member token h = cc
spends_in (Some (s, Leave a)) member token h = cc
spends_in (Some (s, Renew a b)) member token h = cc
spends_in (Some (s, Advance a b)) member token h = cc
spends_in (Some (s, Expire a)) member token h = cc
spends_in None member token h = cc

is_spending_in : (o : Option (ShardState × Transition)) (member token : ℕ) → SpendsIn o member token → is_spending o member token ≡ true
is_spending_in (Some (s, Append a b c d e f g)) member token h = rw (eq-eqb a member h.0, eq-eqb b token h.1) refl
is_spending_in (Some (s, Merge a b c d e)) member token h = rw (eq-eqb a member h.0, eq-eqb b token h.1) refl
is_spending_in (Some (s, Init)) member token h = absurd h
is_spending_in (Some (s, Join a b c)) member token h = absurd h
is_spending_in (Some (s, Leave a)) member token h = absurd h
is_spending_in (Some (s, Renew a b)) member token h = absurd h
is_spending_in (Some (s, Advance a b)) member token h = absurd h
is_spending_in (Some (s, Expire a)) member token h = absurd h
is_spending_in None member token h = absurd h

spends_member : (x : Transition) (member token : ℕ) → Spends x member token → acts_for x ≡ Some member
spends_member (Append a b c d e f g) member token h = ap Some h.0
spends_member (Merge a b c d e) member token h = ap Some h.0
spends_member Init member token h = absurd h
spends_member (Join a b c) member token h = absurd h
spends_member (Leave a) member token h = absurd h
spends_member (Renew a b) member token h = absurd h
spends_member (Advance a b) member token h = absurd h
spends_member (Expire a) member token h = absurd h

-- an entry that the count counts commits under the token
pub counted_commits : (start : Stored) (shard : ShardId) (member token : ℕ) (e : Entry) (es : List Entry) → is_commit_under (replay_back start es) shard member token e e.call ≡ true → CommitsUnder start shard member token (placed e es)
counted_commits start shard member token e es h = go e.call refl h
  where
    go : (call : Call) → e.call ≡ call → is_commit_under (replay_back start es) shard member token e call ≡ true → CommitsUnder start shard member token (placed e es)
    go (calls.Cas s (Some n) bytes) c k =
        let (took_and, spends) = and_true _ _ k in
        let (took, here_and) = and_true _ _ took_and in
        let (here, commit) = and_true _ _ here_and in
        let s_is = shard_eq s shard here in (
          record { expected = Some n; bytes = bytes; call_is = c ∙ ap (λ (q : ShardId). calls.Cas q (Some n) bytes) s_is; took = took; commit = commit },
          subst (λ (q : Call). IsCasUnder shard member token q) (sym c) (s_is, spends_in (version_in shard (n + 1) bytes) member token spends),
        )
    go (calls.Cas s None bytes) c k = cc
    go (calls.Head s) c k = cc
    go (calls.Scan s from) c k = cc
    go (calls.Truncate s below) c k = cc
    go (calls.Get key) c k = cc
    go (calls.Set key bytes) c k = cc
    go (calls.Delete key) c k = cc

-- and the other way round
pub commits_counted : (start : Stored) (shard : ShardId) (member token : ℕ) (e : Entry) (es : List Entry) → CommitsUnder start shard member token (placed e es) → is_commit_under (replay_back start es) shard member token e e.call ≡ true
commits_counted start shard member token e es (k, under) =
    let under2 = subst (λ (q : Call). IsCasUnder shard member token q) k.call_is under in
    subst (λ (q : Call). is_commit_under (replay_back start es) shard member token e q ≡ true) (sym k.call_is) (go k.expected k.bytes k.commit under2)
  where
    go : (expected : Option ℕ) (bytes : List ℕ) → commits ((replay_back start es).logs shard) expected ≡ true → IsCasUnder shard member token (calls.Cas shard expected bytes) →
        is_commit_under (replay_back start es) shard member token e (calls.Cas shard expected bytes) ≡ true
    go None bytes c u = absurd u
    go (Some n) bytes c u = rw (k.took, shard_same shard, c, is_spending_in (version_in shard (n + 1) bytes) member token u.1) refl

module _ (start : Stored) (shard : ShardId) (first : (start.logs shard).versions ≡ [] → (start.logs shard).first ≡ 0) (member token : ℕ) where
  -- who commits under a token of a member owns the member
  owner : (e : Entry) (es : List Entry) → LawfulBack start (e ∷ es) → CommitsUnder start shard member token (placed e es) → Owns (mine_back start es e.client) shard member
  owner e es l (k, under) =
      let allowed = subst (λ (q : Call). Allows (mine_back start es e.client) q) k.call_is (lawful_newest start e es l) in
      go k.expected k.bytes (subst (λ (q : Call). IsCasUnder shard member token q) k.call_is under) (commit_of start shard first es e.client k.expected k.bytes k.commit allowed)
    where
      go : (expected : Option ℕ) (bytes : List ℕ) → IsCasUnder shard member token (calls.Cas shard expected bytes) →
          CommitsFirst shard (ever start shard es) expected bytes ⊎ CommitBy (mine_back start es e.client) shard (ever start shard es) expected bytes →
          Owns (mine_back start es e.client) shard member
      go None bytes u b = absurd u
      go (Some n) bytes u (inl f) = absurd (let no = f.none in cc)
      go (Some n) bytes u (inr b) =
          let same : n ≡ b.commit.n = (let e2 : Some n ≡ Some b.commit.n = b.number in cc) in
          let s1 = subst (λ (j : ℕ). SpendsIn (version_in shard (j + 1) bytes) member token) same u.1 in
          let s2 : Spends b.commit.step member token = subst (λ (o : Option (ShardState × Transition)). SpendsIn o member token) b.commit.written s1 in
          subst (λ (o : Option ℕ). OwnsSome (mine_back start es e.client) shard o) (spends_member b.commit.step member token s2) b.owned

  -- the client is the one that owns the member
  abbrev pub OnlyOwner : ℕ → List Entry → Type 0
  OnlyOwner c es = (d : ℕ) → Owns (mine_back start es d) shard member → d ≡ c

  abbrev Count : List Entry → ℕ
  Count es = commits_under start shard member token es

  abbrev Under : Entry → List Entry → Bool
  Under e es = is_commit_under (replay_back start es) shard member token e e.call

  count_same : (e : Entry) (es : List Entry) → Under e es ≡ false → Count (e ∷ es) ≡ Count es
  count_same e es u = rw u (omega arith)

  count_more : (e : Entry) (es : List Entry) → Under e es ≡ true → Count (e ∷ es) ≡ Count es + 1
  count_more e es u = rw u (omega arith)

  owner_older : (c : ℕ) (e : Entry) (es : List Entry) → OnlyOwner c (e ∷ es) → OnlyOwner c es
  owner_older c e es only d o = only d (mine_older (λ (w : Answered). IsJoin shard member w.entry.call w.reply) start e es d o)

  client_is : (c : ℕ) (e : Entry) (es : List Entry) → LawfulBack start (e ∷ es) → OnlyOwner c (e ∷ es) → Under e es ≡ true → e.client ≡ c
  client_is c e es l only u = owner_older c e es only e.client (owner e es l (counted_commits start shard member token e es u))

  -- where some entry commits under the token, an own Cas is under it
  some_own : (c : ℕ) (es : List Entry) → LawfulBack start es → OnlyOwner c es → 0 < Count es → Among (λ o. IsCasUnder shard member token o.entry.call) (mine_back start es c)
  some_own c [] l only pos = absurd (omega arith)
  some_own c (e ∷ es) l only pos =
      elim (bool_cases (Under e es)) [
        | inl u ↦ subst (λ (d : ℕ). Among (λ (o : Answered). IsCasUnder shard member token o.entry.call) (mine_back start (e ∷ es) d)) (client_is c e es l only u)
            (mine_newest (λ (o : Answered). IsCasUnder shard member token o.entry.call) start e es (counted_commits start shard member token e es u).1)
        | inr u ↦
            let pos2 : 0 < Count es = (let same = count_same e es u in omega arith) in
            mine_older (λ (o : Answered). IsCasUnder shard member token o.entry.call) start e es c (some_own c es (lawful_older start e es l) (owner_older c e es only) pos2)
      ]

  -- where none commits under it, none of a command does
  none_placed : (c k : ℕ) (es : List Entry) → Count es ≡ 0 → ¬ Among (CommitsUnder start shard member token) (places c k es)
  none_placed c zero es z h = absurd h
  none_placed c (suc k) [] z h = absurd h
  none_placed c (suc k) (e ∷ es) z h =
      elim (bool_cases (Under e es)) [
        | inl u ↦ absurd (let more = count_more e es u in omega arith)
        | inr u ↦
            let z2 : Count es ≡ 0 = sym (count_same e es u) ∙ z in
            elim (bool_cases (eqb e.client c)) [
              | inl q ↦
                  let h2 : CommitsUnder start shard member token (placed e es) ⊎ Among (CommitsUnder start shard member token) (places c k es) = rw q at h in
                  elim h2 [ inl p ↦ absurd (let y = commits_counted start shard member token e es p in cc) | inr p ↦ none_placed c k es z2 p ]
              | inr q ↦ none_placed c (suc k) es z2 (rw q at h)
            ]
      ]

  -- where one commits under it, and no own Cas under it is older than the command, one of the command does
  pub one_placed : (c k : ℕ) (es : List Entry) → LawfulBack start es → OnlyOwner c es → Count es ≡ 1 → (¬ Among (λ o. IsCasUnder shard member token o.entry.call) (drop k (mine_back start es c))) →
      OnlyOne (CommitsUnder start shard member token) (λ p. ⊤) (places c k es)
  one_placed c zero es l only one none = absurd (none (some_own c es l only (omega arith)))
  one_placed c (suc k) [] l only one none = absurd (omega arith)
  one_placed c (suc k) (e ∷ es) l only one none =
      let before = lawful_older start e es l in
      elim (bool_cases (eqb e.client c)) [
        | inl q ↦
            let none2 : ¬ Among (λ (o : Answered). IsCasUnder shard member token o.entry.call) (drop k (mine_back start es c)) = rw q at none in
            rw q (elim (bool_cases (Under e es)) [
              | inl u ↦
                  let z : Count es ≡ 0 = (let more = count_more e es u in omega arith) in
                  inl (counted_commits start shard member token e es u, tt, none_placed c k es z)
              | inr u ↦ inr (not_under u, one_placed c k es before (owner_older c e es only) (sym (count_same e es u) ∙ one) none2)
            ])
        | inr q ↦
            let none2 : ¬ Among (λ (o : Answered). IsCasUnder shard member token o.entry.call) (drop (suc k) (mine_back start es c)) = rw q at none in
            rw q (elim (bool_cases (Under e es)) [
              | inl u ↦ absurd (let same : eqb e.client c ≡ true = eq-eqb e.client c (client_is c e es l only u) in cc)
              | inr u ↦ one_placed c (suc k) es before (owner_older c e es only) (sym (count_same e es u) ∙ one) none2
            ])
      ]
    where
      not_under : Under e es ≡ false → ¬ CommitsUnder start shard member token (placed e es)
      not_under u p = absurd (let y = commits_counted start shard member token e es p in cc)
