-- What a walk over a lawful trail has seen is the accepted list.
use Rattle.std.proofs.Common.{◌≡◌, ◌&&◌, ℕ, ◌+◌, Bool, true, false, cond, List, [], ◌∷◌, ◌++◌, inl, inr, length, Option, Some, None, refl, sym, ap, ◌∙◌, subst, arith}
use Rattle.std.specs.Prelude.{reverse}
use Rattle.std.specs.List.{AllByRecursion}
use Rattle.update_core.specs.declared.updates.Update.{Update}
use Rattle.store_core.specs.declared.shards.ShardId.{ShardId}
use Rattle.store_core.specs.declared.part_keys.PartKey.{PartKey}
use Rattle.store_core.specs.declared.calls.Call.{Call}
use Rattle.store_core.specs.declared.calls.Call.TheVariants as calls
use Rattle.store_core.specs.declared.outcomes.Outcome.{Outcome}
use Rattle.store_core.specs.declared.outcomes.Outcome.TheVariants.{Took, FailedTook, FailedLost}
use Rattle.store_core.specs.declared.entries.Entry.{Entry}
use Rattle.store_core.specs.Changes.{commits}
use Rattle.store_core.specs.Stores.{Log, Stored, last_number, next_number, committed, cas_log, after_call}
use Rattle.store_core.specs.Histories.{after_outcome, reply_by}
use Rattle.store_core.specs.Ports.{Answered}
use Rattle.store_core.specs.Newest.{replay_back, mine_back}
use Rattle.state_core.specs.States.{ShardState}
use Rattle.state_core.specs.declared.transitions.Transition.{Transition}
use Rattle.state_core.specs.declared.transitions.Transition.TheVariants.{Init, Join, Leave, Renew, Advance, Expire, Append, Merge}
use Rattle.version_codec.specs.Reading.{version_in}
use Rattle.state_core.proofs.ListLemmas.{bool_cases, append-nil}
use Rattle.history_core.specs.Histories.{same_shard, took_effect, ever}
use Rattle.history_core.specs.Discipline.{Hold, Holds, StoredAs, IsStored, Allows, CasAllowed, LawfulBack}
use Rattle.history_core.specs.Stands.{end_of, rows_under, rows_of_blob, appended_by, appended, accepted, accepted_of}
use Rattle.history_core.specs.Walks.{Walked, with_blobs, number_given, rows_given, after_given, walk_call, walk_entry, walk_back}
use Rattle.history_core.specs.Accepting.{is_cas, takes_cas, NamesShard, CommitsAt, IsOriginOf}
use Rattle.history_core.proofs.Logs.{last_none_empty, last_number-committed, last_number-truncated, commits_last, commits_some, and_true}
use Rattle.history_core.proofs.Prefixes.{lawful_back}
use Rattle.history_core.proofs.Entries.{shard_same, among_mine, lawful_newest, lawful_older, LogStep, idle, cuts, adds, log_step, cas_log_is}
use Rattle.history_core.proofs.Versions.{logs_agree, live}
use Rattle.history_core.proofs.Content.{appended_none, appended_grown}
use Rattle.history_core.proofs.Walking.{NoCas, FirstBack, first_back, all_back, IsWrite, IsWritten, bytes_known, given_is}
use Rattle.history_core.proofs.Bases.{base_of}

-- ---- a stored part was written

stored_write : (k : PartKey) (b : List ℕ) (s : Stored) (call : Call) (outcome : Outcome)
    → IsStored k b call (reply_by s call outcome) → (took_effect outcome ≡ true) × IsWrite k call
stored_write k b s (calls.Set q bytes) Took h = (refl, h.0)
stored_write k b s (calls.Set q bytes) FailedTook h = absurd h
stored_write k b s (calls.Set q bytes) FailedLost h = absurd h
stored_write k b s (calls.Head d) outcome h = absurd h
stored_write k b s (calls.Scan d from) outcome h = absurd h
stored_write k b s (calls.Cas d expected bytes) outcome h = absurd h
stored_write k b s (calls.Truncate d below) outcome h = absurd h
stored_write k b s (calls.Get q) outcome h = absurd h
stored_write k b s (calls.Delete q) outcome h = absurd h

stored_written : (start : Stored) (es : List Entry) (c : ℕ) (k : PartKey) (b : List ℕ) → StoredAs (mine_back start es c) k b
    → IsWritten k es
stored_written start [] c k b h = absurd h
stored_written start (e ∷ es) c k b h = elim (among_mine (λ o. IsStored k b o.entry.call o.reply) start e es c h) [
  | inl p ↦ inl (stored_write k b (replay_back start es) e.call e.outcome p.1)
  | inr p ↦ inr (stored_written start es c k b p)
]

-- ---- the rows of an append

held_rows : (f : PartKey → Option (List ℕ)) (s : Stored) (P : PartKey → List ℕ → Type 0) (ks : List PartKey) (rows : List Update)
    → ((k : PartKey) (b : List ℕ) → P k b → f k ≡ s.blobs k) → Hold P ks rows → rows_under (with_blobs f) ks ≡ rows_under s ks
held_rows f s P [] rows same h = refl
held_rows f s P (k ∷ ks) rows same h = λ i. rows_of_blob (same k h.0 h.3 i) ++ held_rows f s P ks h.2 same h.6 i

step_rows : (f : PartKey → Option (List ℕ)) (s : Stored) (own : List Answered) (to : ShardState) (step : Transition)
    → ((k : PartKey) (b : List ℕ) → StoredAs own k b → f k ≡ s.blobs k)
    → Holds own step → appended_by (with_blobs f) (Some (to, step)) ≡ appended_by s (Some (to, step))
step_rows f s own to Init same h = refl
step_rows f s own to (Join kind now lease) same h = refl
step_rows f s own to (Leave member) same h = refl
step_rows f s own to (Renew member now) same h = refl
step_rows f s own to (Advance member at) same h = refl
step_rows f s own to (Expire now) same h = refl
step_rows f s own to (Append member token expected new parts rows weight) same h = held_rows f s (StoredAs own) parts h.updates same h.hold
step_rows f s own to (Merge member token left right merged) same h = refl

-- ---- entries that are no Cas, or don't take effect

-- nothing of what is counted changes
record StandsStill (w v : Walked) : Type 0 where
  pub last : v.last ≡ w.last
  pub rows : v.rows ≡ w.rows

still_call : (w : Walked) (call : Call) (outcome : Outcome) → took_effect outcome && is_cas call ≡ false
    → StandsStill w (cond (took_effect outcome) (walk_call w call) w)
still_call w call FailedLost h = record { last = refl; rows = refl }
still_call w (calls.Head d) Took h = record { last = refl; rows = refl }
still_call w (calls.Scan d from) Took h = record { last = refl; rows = refl }
still_call w (calls.Cas d expected bytes) Took h = absurd (cc)
still_call w (calls.Truncate d below) Took h = record { last = refl; rows = refl }
still_call w (calls.Get q) Took h = record { last = refl; rows = refl }
still_call w (calls.Set q bytes) Took h = record { last = refl; rows = refl }
still_call w (calls.Delete q) Took h = record { last = refl; rows = refl }
still_call w (calls.Head d) FailedTook h = record { last = refl; rows = refl }
still_call w (calls.Scan d from) FailedTook h = record { last = refl; rows = refl }
still_call w (calls.Cas d expected bytes) FailedTook h = absurd (cc)
still_call w (calls.Truncate d below) FailedTook h = record { last = refl; rows = refl }
still_call w (calls.Get q) FailedTook h = record { last = refl; rows = refl }
still_call w (calls.Set q bytes) FailedTook h = record { last = refl; rows = refl }
still_call w (calls.Delete q) FailedTook h = record { last = refl; rows = refl }

appended_still : (store : Stored) (shard : ShardId) (e : Entry) (call : Call) → took_effect e.outcome && is_cas call ≡ false
    → appended store shard e call ≡ []
appended_still store shard e (calls.Cas d (Some n) bytes) h = lost (took_effect e.outcome) (same_shard d shard && commits (store.logs shard) (Some n)) h
  where
    lost : (a b : Bool) → a && true ≡ false → cond (a && b) (appended_by store (version_in shard (n + 1) bytes)) [] ≡ []
    lost true b h = absurd (cc)
    lost false b h = refl
appended_still store shard e (calls.Cas d None bytes) h = refl
appended_still store shard e (calls.Head d) h = refl
appended_still store shard e (calls.Scan d from) h = refl
appended_still store shard e (calls.Truncate d below) h = refl
appended_still store shard e (calls.Get q) h = refl
appended_still store shard e (calls.Set q bytes) h = refl
appended_still store shard e (calls.Delete q) h = refl

last_still : (shard : ShardId) (store : Stored) (call : Call) (outcome : Outcome) → took_effect outcome && is_cas call ≡ false
    → last_number ((after_outcome store call outcome).logs shard) ≡ last_number (store.logs shard)
last_still shard store call outcome h = go (log_step shard store call outcome)
  where
    go : LogStep shard store call outcome
        → last_number ((after_outcome store call outcome).logs shard) ≡ last_number (store.logs shard)
    go (idle q g) = ap last_number q
    go (cuts below c q g) = ap last_number q ∙ last_number-truncated (store.logs shard) below
    go (adds expected bytes c t k q g) = absurd (let f : true && is_cas (calls.Cas shard expected bytes) ≡ false = (λ i. sym t i && is_cas (sym c i)) ∙ h in cc)

-- ---- a Cas that takes effect

record CasOf (call : Call) : Type 0 where
  pub shard : ShardId
  pub expected : Option ℕ
  pub bytes : List ℕ
  pub is : call ≡ calls.Cas shard expected bytes

cas_of : (call : Call) → is_cas call ≡ true → CasOf call
cas_of (calls.Cas d expected bytes) h = record { shard = d; expected = expected; bytes = bytes; is = refl }
cas_of (calls.Head d) h = absurd (cc)
cas_of (calls.Scan d from) h = absurd (cc)
cas_of (calls.Truncate d below) h = absurd (cc)
cas_of (calls.Get q) h = absurd (cc)
cas_of (calls.Set q bytes) h = absurd (cc)
cas_of (calls.Delete q) h = absurd (cc)

-- a Cas of a shard that took effect
record TookCas (shard : ShardId) (e : Entry) : Type 0 where
  pub took : took_effect e.outcome ≡ true
  pub expected : Option ℕ
  pub bytes : List ℕ
  pub is : e.call ≡ calls.Cas shard expected bytes

took_cas : (shard : ShardId) (e : Entry) → takes_cas e ≡ true → NamesShard shard e.call → TookCas shard e
took_cas shard e h names =
    let (t, k) = and_true (took_effect e.outcome) (is_cas e.call) h in
    let c = cas_of e.call k in
    let named : c.shard ≡ shard = subst (NamesShard shard) c.is names in
    record { took = t; expected = c.expected; bytes = c.bytes; is = c.is ∙ ap (λ (d : ShardId). calls.Cas d c.expected c.bytes) named }

walk_cas : (w : Walked) (shard : ShardId) (e : Entry) (c : TookCas shard e)
    → walk_entry w e ≡ after_given w shard c.expected c.bytes (number_given w.last c.expected)
walk_cas w shard e c = ap (λ (b : Bool). cond b (walk_call w e.call) w) c.took ∙ ap (walk_call w) c.is

log_cas : (store : Stored) (shard : ShardId) (e : Entry) (c : TookCas shard e)
    → (after_outcome store e.call e.outcome).logs shard ≡ cond (commits (store.logs shard) c.expected) (committed (store.logs shard) c.bytes) (store.logs shard)
log_cas store shard e c = effect e.outcome c.took ∙ ap (λ (q : Call). (after_call store q).logs shard) c.is ∙ here
    ∙ cas_log_is (store.logs shard) c.expected c.bytes
  where
    effect : (o : Outcome) → took_effect o ≡ true
        → (after_outcome store e.call o).logs shard ≡ (after_call store e.call).logs shard
    effect Took h = refl
    effect FailedTook h = refl
    effect FailedLost h = absurd (cc)

    here : (after_call store (calls.Cas shard c.expected c.bytes)).logs shard ≡ cas_log (store.logs shard) c.expected c.bytes
    here = ap (λ (b : Bool). cond b (cas_log (store.logs shard) c.expected c.bytes) (store.logs shard)) (shard_same shard)

appended_lost : (store : Stored) (shard : ShardId) (e : Entry) (expected : Option ℕ) (bytes : List ℕ)
    → commits (store.logs shard) expected ≡ false → appended store shard e (calls.Cas shard expected bytes) ≡ []
appended_lost store shard e None bytes h = refl
appended_lost store shard e (Some n) bytes h = lost (took_effect e.outcome) (same_shard shard shard) (commits (store.logs shard) (Some n)) h
  where
    lost : (a b k : Bool) → k ≡ false → cond (a && (b && k)) (appended_by store (version_in shard (n + 1) bytes)) [] ≡ []
    lost true true k h = ap (λ (x : Bool). cond x (appended_by store (version_in shard (n + 1) bytes)) []) h
    lost true false k h = refl
    lost false b k h = refl

module _ (start : Stored) (shard : ShardId) (list : List Update) (z : (start.logs shard).versions ≡ [] → (start.logs shard).first ≡ 0) where
  -- the number after the last one ends the log
  end_is : (es : List Entry) (expected : Option ℕ) → commits (live start shard es) expected ≡ true
      → end_of (live start shard es) ≡ next_number expected
  end_is es (Some n) k = sym (commits_some (live start shard es) n k)
  end_is es None k =
      let agree = logs_agree start shard z es in
      let none : last_number (live start shard es) ≡ None = sym (commits_last (live start shard es) None k) in
      let empty : (ever start shard es).versions ≡ [] = last_none_empty (ever start shard es) (sym agree.last ∙ none) in
      let first : (ever start shard es).first ≡ 0 = agree.first empty in
      let count : length (ever start shard es).versions ≡ 0 = ap length empty in
      let ends : end_of (live start shard es) ≡ end_of (ever start shard es) = agree.next in
      omega arith

  -- what a walk has seen of a trail
  record Sees (es : List Entry) : Type 0 where
    pub rows : (walk_back list es).rows ≡ accepted shard list start es
    pub last : (n : ℕ) → (walk_back list es).last ≡ Some n → last_number (live start shard es) ≡ Some n
    pub none : (walk_back list es).last ≡ None → NoCas es

  sees_still : (e : Entry) (es : List Entry) → Sees es → takes_cas e ≡ false → Sees (e ∷ es)
  sees_still e es old t =
      let same = still_call (walk_back list es) e.call e.outcome t in
      record {
        rows = same.rows ∙ old.rows
            ∙ sym (ap (λ (us : List Update). accepted shard list start es ++ us) (appended_still (replay_back start es) shard e e.call t) ∙ append-nil (accepted shard list start es));
        last = λ n h. last_still shard (replay_back start es) e.call e.outcome t ∙ old.last n (sym same.last ∙ h);
        none = λ h. (t, old.none (sym same.last ∙ h));
      }

  module _ (e : Entry) (es : List Entry) (l : LawfulBack start (e ∷ es)) (old : Sees es) (c : TookCas shard e) where
    abbrev W : Walked
    W = walk_back list es

    abbrev S : Stored
    S = replay_back start es

    abbrev L : Log
    L = live start shard es

    -- the rows that the walk adds are those that the entry appends
    rows_same : (expected : Option ℕ) (bytes : List ℕ) → e.call ≡ calls.Cas shard expected bytes → commits L expected ≡ true
        → rows_given W.blobs shard expected (next_number expected) bytes ≡ appended S shard e e.call
    rows_same None bytes is k = sym (appended_none S shard e e.call None bytes is refl)
    rows_same (Some n) bytes is k =
        let m : CasAllowed (mine_back start es e.client) shard n bytes = subst (Allows (mine_back start es e.client)) is (lawful_newest start e es l) in
        ap (appended_by (with_blobs W.blobs)) m.written
        ∙ step_rows W.blobs S (mine_back start es e.client) m.to m.step (λ q b st. bytes_known list start es q (stored_written start es e.client q b st)) m.holds
        ∙ sym (appended_grown S shard e e.call (Some n) n bytes m.to m.step is refl c.took k m.written)

    sees_commit : number_given W.last c.expected ≡ Some (next_number c.expected) → commits L c.expected ≡ true → Sees (e ∷ es)
    sees_commit given k =
        let now : walk_entry W e ≡ after_given W shard c.expected c.bytes (Some (next_number c.expected)) = walk_cas W shard e c ∙ ap (after_given W shard c.expected c.bytes) given in
        let last_is : (walk_entry W e).last ≡ Some (next_number c.expected) = ap (λ (v : Walked). v.last) now in
        let log_is : live start shard (e ∷ es) ≡ committed L c.bytes = log_cas S shard e c ∙ ap (λ (b : Bool). cond b (committed L c.bytes) L) k in
        let number_is : last_number (live start shard (e ∷ es)) ≡ Some (next_number c.expected) = ap last_number log_is ∙ last_number-committed L c.bytes ∙ ap (λ (j : ℕ). Some j) (end_is es c.expected k) in
        record {
          rows = ap (λ (v : Walked). v.rows) now ∙ (λ i. old.rows i ++ rows_same c.expected c.bytes c.is k i);
          last = λ n h. number_is ∙ sym last_is ∙ h;
          none = λ h. absurd (let f : Some (next_number c.expected) ≡ None = sym last_is ∙ h in cc);
        }

    sees_lost : number_given W.last c.expected ≡ None → commits L c.expected ≡ false
        → (W.last ≡ None → commits L c.expected ≡ true) → Sees (e ∷ es)
    sees_lost given k first =
        let now : walk_entry W e ≡ W = walk_cas W shard e c ∙ ap (after_given W shard c.expected c.bytes) given in
        let log_is : live start shard (e ∷ es) ≡ L = log_cas S shard e c ∙ ap (λ (b : Bool). cond b (committed L c.bytes) L) k in
        let nothing : appended S shard e e.call ≡ [] = ap (appended S shard e) c.is ∙ appended_lost S shard e c.expected c.bytes k in
        record {
          rows = ap (λ (v : Walked). v.rows) now ∙ old.rows
              ∙ sym (ap (λ (us : List Update). accepted shard list start es ++ us) nothing ∙ append-nil (accepted shard list start es));
          last = λ n h. ap last_number log_is ∙ old.last n (sym (ap (λ (v : Walked). v.last) now) ∙ h);
          none = λ h. absurd (let f : commits L c.expected ≡ true = first (sym (ap (λ (v : Walked). v.last) now) ∙ h) in cc);
        }

    sees_cas : (NoCas es → CommitsAt S shard e.call) → Sees (e ∷ es)
    sees_cas first =
        let commit : W.last ≡ None → commits L c.expected ≡ true = λ h. subst (CommitsAt S shard) c.is (first (old.none h)) in
        let given = given_is L W.last c.expected old.last commit in
        elim (bool_cases (commits L c.expected)) [
          | inl k ↦ sees_commit (given ∙ ap (λ (b : Bool). cond b (Some (next_number c.expected)) None) k) k
          | inr k ↦ sees_lost (given ∙ ap (λ (b : Bool). cond b (Some (next_number c.expected)) None) k) k commit
        ]

  -- in each lawful trail whose first Cas that takes effect commits, the walk's rows are the accepted list
  sees : (es : List Entry) → LawfulBack start es → AllByRecursion (λ e. NamesShard shard e.call) es → FirstBack start shard es
      → Sees es
  sees [] l names first = record { rows = refl; last = λ n h. absurd (cc); none = λ h. tt }
  sees (e ∷ es) l names first =
      let old = sees es (lawful_older start e es l) names.1 first.1 in
      elim (bool_cases (takes_cas e)) [
        | inl t ↦ sees_cas e es l old (took_cas shard e t names.0) (λ none. first.0 none t)
        | inr t ↦ sees_still e es old t
      ]

  pub walk_rows : (es : List Entry) → LawfulBack start es → AllByRecursion (λ e. NamesShard shard e.call) es
      → FirstBack start shard es → (walk_back list es).rows ≡ accepted shard list start es
  walk_rows es l names first = (sees es l names first).rows

-- from whatever store a trail began, the rows of a walk over it are the accepted list
pub walk_accepts : (origin : Stored) (shard : ShardId) (list : List Update) (trail : List Entry)
    → IsOriginOf origin shard list trail
    → (walk_back list (reverse trail)).rows ≡ accepted_of shard list (record { start = origin; trail = trail })
walk_accepts origin shard list trail o =
    walk_rows origin shard list (base_of origin shard list o.stands).begin.first (reverse trail) (lawful_back (record { start = origin; trail = trail }) o.lawful)
    (all_back (λ e. NamesShard shard e.call) trail o.one_shard) (first_back origin shard trail o.first)
