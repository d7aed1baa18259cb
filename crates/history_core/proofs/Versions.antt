-- The versions that are live are among those that ever were, and replies show no others.
use Rattle.std.proofs.Common.{◌≡◌, ℕ, ◌+◌, true, List, [], ◌∷◌, ◌++◌, inl, inr, refl, arith, subst, sym, ap, ◌∙◌, Some, None, Option, length}
use Rattle.state_core.proofs.ListLemmas.{bool_cases}
use Rattle.store_core.specs.declared.shards.ShardId.{ShardId}
use Rattle.store_core.specs.declared.versions.Version.{Version}
use Rattle.store_core.specs.declared.calls.Call.{Call}
use Rattle.store_core.specs.declared.calls.Call.TheVariants as calls
use Rattle.store_core.specs.declared.replies.Reply.TheVariants as replies
use Rattle.store_core.specs.declared.outcomes.Outcome.{Outcome}
use Rattle.store_core.specs.declared.outcomes.Outcome.TheVariants.{Took, FailedTook, FailedLost}
use Rattle.store_core.specs.declared.entries.Entry.{Entry}
use Rattle.store_core.specs.Changes.{commits}
use Rattle.store_core.specs.Stores.{Log, Stored, same_number, last_number, is_last_number, next_number, committed, truncated, reply_of, after_call}
use Rattle.store_core.specs.Histories.{after_outcome, reply_by}
use Rattle.store_core.specs.Newest.{replay_back, mine_back}
use Rattle.history_core.specs.Histories.{version_at, Told, Shows, grown, ever}
use Rattle.history_core.specs.Stands.{end_of}
use Rattle.history_core.proofs.Entries.{LogStep, idle, cuts, adds, log_step, among_mine, cas_commits}
use Rattle.history_core.proofs.Logs.{end_of-committed, last_number-committed, end_of-truncated, last_number-truncated, committed_either, committed_old, committed_new, truncated_old, last_there, scan_there, empty_last, last_none_empty, commits_next}

abbrev pub live : Stored → ShardId → List Entry → Log
live start shard es = (replay_back start es).logs shard

-- the live versions are among those that ever were, up to the same last one
pub record Agree (now all : Log) : Type 0 where
  pub next : end_of now ≡ end_of all
  pub last : last_number now ≡ last_number all
  pub old : (n : ℕ) (v : List ℕ) → version_at now n ≡ Some v → version_at all n ≡ Some v
  pub first : all.versions ≡ [] → all.first ≡ 0

agree_committed : (now all : Log) (b : List ℕ) → Agree now all → Agree (committed now b) (committed all b)
agree_committed now all b a = record {
  next = end_of-committed now b ∙ ap (λ (j : ℕ). j + 1) a.next ∙ sym (end_of-committed all b);
  last = last_number-committed now b ∙ ap Some a.next ∙ sym (last_number-committed all b);
  old = λ n v h. elim (committed_either now b n v h) [
    | inl g ↦ committed_old all b n v (a.old n v g)
    | inr g ↦ subst (λ (m : ℕ). version_at (committed all b) m ≡ Some v) (sym (g.0 ∙ a.next)) (committed_new all b ∙ ap Some (sym g.1))
  ];
  first = λ e. absurd (not_empty all.versions e);
}
  where
    not_empty : (vs : List (List ℕ)) → vs ++ b ∷ [] ≡ [] → ⊥
    not_empty [] e = cc
    not_empty (v ∷ vs) e = cc

agree_truncated : (now all : Log) (below : ℕ) → Agree now all → Agree (truncated now below) all
agree_truncated now all below a = record {
  next = end_of-truncated now below ∙ a.next;
  last = last_number-truncated now below ∙ a.last;
  old = λ n v h. a.old n v (truncated_old now below n v h);
  first = a.first;
}

agree_step : (shard : ShardId) (before : Stored) (call : Call) (outcome : Outcome) (all : Log) →
    Agree (before.logs shard) all → LogStep shard before call outcome →
    Agree ((after_outcome before call outcome).logs shard) (grown shard (before.logs shard) call outcome all)
agree_step shard before call outcome all a (idle q g) = rw (q, g all) a
agree_step shard before call outcome all a (cuts below c q g) = rw (q, g all) (agree_truncated (before.logs shard) all below a)
agree_step shard before call outcome all a (adds expected bytes c t k q g) = rw (q, g all) (agree_committed (before.logs shard) all bytes a)

pub logs_agree : (start : Stored) (shard : ShardId) → ((start.logs shard).versions ≡ [] → (start.logs shard).first ≡ 0) →
    (es : List Entry) → Agree (live start shard es) (ever start shard es)
logs_agree start shard z [] = record { next = refl; last = refl; old = λ n v h. h; first = z }
logs_agree start shard z (e ∷ es) =
    agree_step shard (replay_back start es) e.call e.outcome (ever start shard es) (logs_agree start shard z es) (log_step shard (replay_back start es) e.call e.outcome)

-- a log without a version has first number 0
live_first : (now all : Log) → Agree now all → now.versions ≡ [] → now.first ≡ 0
live_first now all a e =
    let none : last_number all ≡ None = sym a.last ∙ empty_last now e in
    let e2 : all.versions ≡ [] = last_none_empty all none in
    let f : all.first ≡ 0 = a.first e2 in
    let l : length now.versions ≡ 0 = ap length e in
    let l2 : length all.versions ≡ 0 = ap length e2 in
    let same : end_of now ≡ end_of all = a.next in
    omega arith

-- a version that ever was goes on to be one
pub ever_on : (start : Stored) (shard : ShardId) (e : Entry) (es : List Entry) (n : ℕ) (v : List ℕ) →
    version_at (ever start shard es) n ≡ Some v → version_at (ever start shard (e ∷ es)) n ≡ Some v
ever_on start shard e es n v h = go (log_step shard (replay_back start es) e.call e.outcome)
  where
    go : LogStep shard (replay_back start es) e.call e.outcome → version_at (ever start shard (e ∷ es)) n ≡ Some v
    go (idle q g) = rw (g (ever start shard es)) h
    go (cuts below c q g) = rw (g (ever start shard es)) h
    go (adds expected bytes c t k q g) = rw (g (ever start shard es)) (committed_old (ever start shard es) bytes n v h)

head_told : (shard at_shard : ShardId) (n : ℕ) (b : List ℕ) (o : Option Version) →
    Told shard n b (calls.Head at_shard) (replies.Version o) → (at_shard ≡ shard) ×
    ((v : Version) × (o ≡ Some v) × (v.number ≡ n) × (v.bytes ≡ b))
head_told shard at_shard n b None t = absurd t
head_told shard at_shard n b (Some v) t = (t.0, (v, refl, t.1, t.2))

-- a Cas that is answered Committed commits
pub record CasTold (shard at_shard : ShardId) (store : Stored) (expected : Option ℕ) (bytes : List ℕ) (n : ℕ) (b : List ℕ) : Type 0 where
  pub here : at_shard ≡ shard
  pub number : next_number expected ≡ n
  pub text : bytes ≡ b
  pub commit : commits (store.logs at_shard) expected ≡ true

pub cas_told : (shard at_shard : ShardId) (store : Stored) (expected : Option ℕ) (bytes : List ℕ) (n : ℕ) (b : List ℕ) →
    Told shard n b (calls.Cas at_shard expected bytes) (reply_of store (calls.Cas at_shard expected bytes)) →
    CasTold shard at_shard store expected bytes n b
cas_told shard at_shard store expected bytes n b t =
    elim (bool_cases (same_number expected (last_number (store.logs at_shard)))) [
      | inl e ↦
          elim (bool_cases (is_last_number expected)) [
            | inl f ↦ absurd (rw (e, f) at t)
            | inr f ↦
                let t2 : (at_shard ≡ shard) × (next_number expected ≡ n) × (bytes ≡ b) = rw (e, f) at t in
                record { here = t2.0; number = t2.1; text = t2.2; commit = rw (e, f) refl }
          ]
      | inr e ↦ absurd (rw e at t)
    ]

cas_next : (shard : ShardId) (store : Stored) → ((store.logs shard).versions ≡ [] → (store.logs shard).first ≡ 0) →
    (expected : Option ℕ) (bytes : List ℕ) (n : ℕ) (b : List ℕ) →
    next_number expected ≡ n → bytes ≡ b → commits (store.logs shard) expected ≡ true → version_at ((after_call store (calls.Cas shard expected bytes)).logs shard) n ≡ Some b
cas_next shard store z expected bytes n b number text commit =
    let live = store.logs shard in
    let at_end : end_of live ≡ n = sym (commits_next live expected z commit) ∙ number in
    subst (λ (log : Log). version_at log n ≡ Some b) (sym (cas_commits shard store expected bytes commit))
    (subst (λ (m : ℕ). version_at (committed live bytes) m ≡ Some b) at_end (committed_new live bytes ∙ ap Some text))

-- a version that a reply shows is live then
pub told_next : (shard : ShardId) (store : Stored) → ((store.logs shard).versions ≡ [] → (store.logs shard).first ≡ 0) →
    (call : Call) (outcome : Outcome) (n : ℕ) (b : List ℕ) →
    Told shard n b call (reply_by store call outcome) → version_at ((after_outcome store call outcome).logs shard) n ≡ Some b
told_next shard store z (calls.Head s) Took n b t =
    let (here, rest) = head_told shard s n b _ t in
    let (v, is, number, text) = rest in
    let there = last_there (store.logs s) v is in
    subst (λ (q : ShardId). version_at (store.logs q) n ≡ Some b) here
    (subst (λ (m : ℕ). version_at (store.logs s) m ≡ Some b) number (there ∙ ap Some text))
told_next shard store z (calls.Scan s from) Took n b t =
    subst (λ (q : ShardId). version_at (store.logs q) n ≡ Some b) t.0 (scan_there from (store.logs s) n b t.1)
told_next shard store z (calls.Cas s expected bytes) Took n b t =
    let c = cas_told shard s store expected bytes n b t in
    let commit = subst (λ (q : ShardId). commits (store.logs q) expected ≡ true) c.here c.commit in
    subst (λ (q : ShardId). version_at ((after_call store (calls.Cas q expected bytes)).logs shard) n ≡ Some b) (sym c.here) (cas_next shard store z expected bytes n b c.number c.text commit)
told_next shard store z (calls.Truncate s below) Took n b t = absurd t
told_next shard store z (calls.Get k) Took n b t = absurd t
told_next shard store z (calls.Set k v) Took n b t = absurd t
told_next shard store z (calls.Delete k) Took n b t = absurd t
told_next shard store z (calls.Head s) FailedTook n b t = absurd t
told_next shard store z (calls.Scan s from) FailedTook n b t = absurd t
told_next shard store z (calls.Cas s expected bytes) FailedTook n b t = absurd t
told_next shard store z (calls.Truncate s below) FailedTook n b t = absurd t
told_next shard store z (calls.Get k) FailedTook n b t = absurd t
told_next shard store z (calls.Set k v) FailedTook n b t = absurd t
told_next shard store z (calls.Delete k) FailedTook n b t = absurd t
told_next shard store z (calls.Head s) FailedLost n b t = absurd t
told_next shard store z (calls.Scan s from) FailedLost n b t = absurd t
told_next shard store z (calls.Cas s expected bytes) FailedLost n b t = absurd t
told_next shard store z (calls.Truncate s below) FailedLost n b t = absurd t
told_next shard store z (calls.Get k) FailedLost n b t = absurd t
told_next shard store z (calls.Set k v) FailedLost n b t = absurd t
told_next shard store z (calls.Delete k) FailedLost n b t = absurd t

-- a number never has two versions: what any reply shows is the version that ever was
pub shows_ever : (start : Stored) (shard : ShardId) → ((start.logs shard).versions ≡ [] → (start.logs shard).first ≡ 0) →
    (es : List Entry) (c n : ℕ) (b : List ℕ) →
    Shows (mine_back start es c) shard n b → version_at (ever start shard es) n ≡ Some b
shows_ever start shard z [] c n b h = absurd h
shows_ever start shard z (e ∷ es) c n b h =
    elim (among_mine (λ o. Told shard n b o.entry.call o.reply) start e es c h) [
      | inl p ↦ (logs_agree start shard z (e ∷ es)).old n b (told_next shard (replay_back start es) (live_first (live start shard es) (ever start shard es) (logs_agree start shard z es)) e.call e.outcome n b p.1)
      | inr r ↦ ever_on start shard e es n b (shows_ever start shard z es c n b r)
    ]
