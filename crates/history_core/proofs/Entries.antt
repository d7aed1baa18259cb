-- What an entry does to versions, to blobs and to a client's own entries.
use Rattle.std.proofs.Common.{◌≡◌, ◌&&◌, ℕ, Bool, true, false, cond, List, ◌∷◌, ◌⊎◌, inl, inr, refl, subst, sym, ap, ◌∙◌, eqb, Some, None, Option}
use Rattle.std.proofs.lemmas.Bool.{eqb-true, eq-eqb}
use Rattle.std.specs.Prelude.{not}
use Rattle.std.specs.Ordering.{is_eq}
use Rattle.state_core.specs.Lists.{Among}
use Rattle.state_core.proofs.ListLemmas.{bool_cases}
use Rattle.store_core.specs.declared.shards.ShardId.{ShardId}
use Rattle.store_core.specs.declared.part_keys.PartKey.{PartKey}
use Rattle.store_core.specs.declared.calls.Call.{Call}
use Rattle.store_core.specs.declared.calls.Call.TheVariants as calls
use Rattle.store_core.specs.declared.outcomes.Outcome.{Outcome}
use Rattle.store_core.specs.declared.outcomes.Outcome.TheVariants.{Took, FailedTook, FailedLost}
use Rattle.store_core.specs.declared.entries.Entry.{Entry}
use Rattle.store_core.specs.Changes.{commits}
use Rattle.store_core.specs.Stores.{Log, Stored, shard_cmp, key_cmp, same_number, last_number, is_last_number, committed, truncated, cas_log, after_call}
use Rattle.store_core.specs.Histories.{after_outcome, reply}
use Rattle.store_core.specs.Ports.{Answered, answered}
use Rattle.store_core.specs.Newest.{replay_back, mine_back}
use Rattle.history_core.specs.Histories.{same_shard, took_effect, grown}
use Rattle.history_core.specs.Discipline.{Allows, OwnLawful, LawfulBack}
use Rattle.std.specs.declared.cmp.Ordering.{Ordering}
use Rattle.std.specs.declared.cmp.Ordering.TheVariants.{Less, Equal, Greater}
use Rattle.std.specs.Ordering.{nat_cmp, ordering_then}
use Rattle.std.proofs.lemmas.Cmp.{nat_cmp_total, tied_itself}
use Rattle.std.proofs.lemmas.Map.Lookups.{exact_unsigned}
use Rattle.store_core.proofs.MapLaws.{exact_shards}

tied : (r : Ordering) → is_eq r ≡ true → r ≡ Equal
tied Less h = cc
tied Equal h = refl
tied Greater h = cc

pub shard_eq : (a b : ShardId) → same_shard a b ≡ true → a ≡ b
shard_eq a b h = exact_shards a b (tied (shard_cmp a b) h)

pub shard_same : (a : ShardId) → same_shard a a ≡ true
shard_same a = ap is_eq (tied_itself nat_cmp_total a.0)

make_key : ShardId → ℕ → ℕ → ℕ → PartKey
make_key shard member token index = record { shard = shard; member = member; token = token; index = index }

made : (s s2 : ShardId) (m m2 t t2 i i2 : ℕ) → s ≡ s2 → m ≡ m2 → t ≡ t2 → i ≡ i2 → make_key s m t i ≡ make_key s2 m2 t2 i2
made s s2 m m2 t t2 i i2 a b c d = cc

same_fields : (a b : PartKey) → a.shard ≡ b.shard → a.member ≡ b.member → a.token ≡ b.token → a.index ≡ b.index → a ≡ b
unfolding make_key
same_fields a b s m t i = made a.shard b.shard a.member b.member a.token b.token a.index b.index s m t i

then_tied : (r q : Ordering) → is_eq (ordering_then r q) ≡ true → (r ≡ Equal) × (is_eq q ≡ true)
then_tied Less q h = cc
then_tied Equal q h = (refl, h)
then_tied Greater q h = cc

pub key_eq : (a b : PartKey) → is_eq (key_cmp a b) ≡ true → a ≡ b
key_eq a b h =
    let (p, q) = then_tied (shard_cmp a.shard b.shard) _ h in
    let (q1, q2) = then_tied (nat_cmp a.member b.member) _ q in
    let (q3, q4) = then_tied (nat_cmp a.token b.token) _ q2 in
    same_fields a b (exact_shards a.shard b.shard p) (exact_unsigned a.member b.member q1) (exact_unsigned a.token b.token q3)
    (exact_unsigned a.index b.index (tied (nat_cmp a.index b.index) q4))

itself : (n : ℕ) → nat_cmp n n ≡ Equal
itself n = tied_itself nat_cmp_total n

pub key_same : (k : PartKey) → is_eq (key_cmp k k) ≡ true
key_same k = rw (itself k.shard.0, itself k.member, itself k.token, itself k.index) refl

chosen : (a b : Bool) (x y : Log) → cond a (cond b y x) y ≡ cond (a && not b) x y
chosen true true x y = refl
chosen true false x y = refl
chosen false b x y = refl

-- a Cas that commits adds its bytes, and no other changes the log
pub cas_log_is : (log : Log) (expected : Option ℕ) (bytes : List ℕ) →
    cas_log log expected bytes ≡ cond (commits log expected) (committed log bytes) log
cas_log_is log expected bytes = chosen (same_number expected (last_number log)) (is_last_number expected) (committed log bytes) log

-- what an entry does to the versions of a shard, live and ever
pub data LogStep (shard : ShardId) (before : Stored) (call : Call) (outcome : Outcome) : Type 0 where
  idle : (after_outcome before call outcome).logs shard ≡ before.logs shard →
      ((log : Log) → grown shard (before.logs shard) call outcome log ≡ log) → LogStep shard before call outcome
  cuts : (below : ℕ) → call ≡ calls.Truncate shard below →
      (after_outcome before call outcome).logs shard ≡ truncated (before.logs shard) below →
      ((log : Log) → grown shard (before.logs shard) call outcome log ≡ log) → LogStep shard before call outcome
  adds : (expected : Option ℕ) (bytes : List ℕ) → call ≡ calls.Cas shard expected bytes → took_effect outcome ≡ true →
      commits (before.logs shard) expected ≡ true →
      (after_outcome before call outcome).logs shard ≡ committed (before.logs shard) bytes →
      ((log : Log) → grown shard (before.logs shard) call outcome log ≡ committed log bytes) → LogStep shard before call outcome

record CasIdle (at_shard shard : ShardId) (before : Stored) (expected : Option ℕ) (bytes : List ℕ) : Type 0 where
  pub same : (after_call before (calls.Cas at_shard expected bytes)).logs shard ≡ before.logs shard
  pub test : (same_shard at_shard shard && commits (before.logs shard) expected) ≡ false

record CasAdds (at_shard shard : ShardId) (before : Stored) (expected : Option ℕ) (bytes : List ℕ) : Type 0 where
  pub here : at_shard ≡ shard
  pub commit : commits (before.logs shard) expected ≡ true
  pub grows : (after_call before (calls.Cas at_shard expected bytes)).logs shard ≡ committed (before.logs shard) bytes
  pub test : (same_shard at_shard shard && commits (before.logs shard) expected) ≡ true

-- a change at the shard itself
there : (shard : ShardId) (log old : Log) → cond (same_shard shard shard) log old ≡ log
there shard log old = ap (λ (t : Bool). cond t log old) (shard_same shard)

cas_here : (shard : ShardId) (before : Stored) (expected : Option ℕ) (bytes : List ℕ) →
    CasIdle shard shard before expected bytes ⊎ CasAdds shard shard before expected bytes
cas_here shard before expected bytes =
    let live = before.logs shard in
    let new = cas_log live expected bytes in
    let same_test : (same_shard shard shard && commits live expected) ≡ commits live expected = ap (λ (t : Bool). t && commits live expected) (shard_same shard) in
    elim (bool_cases (commits live expected)) [
      | inl e ↦ inr (record {
        here = refl;
        commit = e;
        grows = there shard new live ∙ cas_log_is live expected bytes ∙ ap (λ (t : Bool). cond t (committed live bytes) live) e;
        test = same_test ∙ e;
      })
      | inr e ↦ inl (record {
        same = there shard new live ∙ cas_log_is live expected bytes ∙ ap (λ (t : Bool). cond t (committed live bytes) live) e;
        test = same_test ∙ e;
      })
    ]

pub cas_commits : (shard : ShardId) (before : Stored) (expected : Option ℕ) (bytes : List ℕ) →
    commits (before.logs shard) expected ≡ true →
    (after_call before (calls.Cas shard expected bytes)).logs shard ≡ committed (before.logs shard) bytes
cas_commits shard before expected bytes e =
    let live = before.logs shard in
    there shard (cas_log live expected bytes) live ∙ cas_log_is live expected bytes ∙ ap (λ (t : Bool). cond t (committed live bytes) live) e

cas_effect : (at_shard shard : ShardId) (before : Stored) (expected : Option ℕ) (bytes : List ℕ) →
    CasIdle at_shard shard before expected bytes ⊎ CasAdds at_shard shard before expected bytes
cas_effect at_shard shard before expected bytes =
    elim (bool_cases (same_shard at_shard shard)) [
      | inl e ↦ subst (λ (a : ShardId). CasIdle a shard before expected bytes ⊎ CasAdds a shard before expected bytes) (sym (shard_eq at_shard shard e)) (cas_here shard before expected bytes)
      | inr e ↦ inl (record {
        same = ap (λ (t : Bool). cond t (cas_log (before.logs at_shard) expected bytes) (before.logs shard)) e;
        test = ap (λ (t : Bool). t && commits (before.logs shard) expected) e;
      })
    ]

cut_effect : (at_shard shard : ShardId) (before : Stored) (below : ℕ) →
    ((after_call before (calls.Truncate at_shard below)).logs shard ≡ before.logs shard) ⊎ ((at_shard ≡ shard) × ((after_call before (calls.Truncate at_shard below)).logs shard ≡ truncated (before.logs shard) below))
cut_effect at_shard shard before below =
    elim (bool_cases (same_shard at_shard shard)) [
      | inl e ↦
          let eq = shard_eq at_shard shard e in
          inr (
            eq,
            subst (λ (a : ShardId). (after_call before (calls.Truncate a below)).logs shard ≡ truncated (before.logs shard) below) (sym eq)
                (there shard (truncated (before.logs shard) below) (before.logs shard)),
          )
      | inr e ↦ inl (ap (λ (t : Bool). cond t (truncated (before.logs at_shard) below) (before.logs shard)) e)
    ]

pub log_step : (shard : ShardId) (before : Stored) (call : Call) (outcome : Outcome) → LogStep shard before call outcome
log_step shard before (calls.Head s) Took = idle refl (λ log. refl)
log_step shard before (calls.Head s) FailedTook = idle refl (λ log. refl)
log_step shard before (calls.Head s) FailedLost = idle refl (λ log. refl)
log_step shard before (calls.Scan s from) Took = idle refl (λ log. refl)
log_step shard before (calls.Scan s from) FailedTook = idle refl (λ log. refl)
log_step shard before (calls.Scan s from) FailedLost = idle refl (λ log. refl)
log_step shard before (calls.Get k) Took = idle refl (λ log. refl)
log_step shard before (calls.Get k) FailedTook = idle refl (λ log. refl)
log_step shard before (calls.Get k) FailedLost = idle refl (λ log. refl)
log_step shard before (calls.Set k b) Took = idle refl (λ log. refl)
log_step shard before (calls.Set k b) FailedTook = idle refl (λ log. refl)
log_step shard before (calls.Set k b) FailedLost = idle refl (λ log. refl)
log_step shard before (calls.Delete k) Took = idle refl (λ log. refl)
log_step shard before (calls.Delete k) FailedTook = idle refl (λ log. refl)
log_step shard before (calls.Delete k) FailedLost = idle refl (λ log. refl)
log_step shard before (calls.Truncate s below) Took =
    elim (cut_effect s shard before below) [ inl e ↦ idle e (λ log. refl) | inr p ↦ cuts below (ap (λ (a : ShardId). calls.Truncate a below) p.0) p.1 (λ log. refl) ]
log_step shard before (calls.Truncate s below) FailedTook =
    elim (cut_effect s shard before below) [ inl e ↦ idle e (λ log. refl) | inr p ↦ cuts below (ap (λ (a : ShardId). calls.Truncate a below) p.0) p.1 (λ log. refl) ]
log_step shard before (calls.Truncate s below) FailedLost = idle refl (λ log. refl)
log_step shard before (calls.Cas s expected bytes) Took =
    elim (cas_effect s shard before expected bytes) [
      | inl c ↦ idle c.same (λ log. rw c.test refl)
      | inr c ↦ adds expected bytes (ap (λ (a : ShardId). calls.Cas a expected bytes) c.here) refl c.commit c.grows (λ log. rw c.test refl)
    ]
log_step shard before (calls.Cas s expected bytes) FailedTook =
    elim (cas_effect s shard before expected bytes) [
      | inl c ↦ idle c.same (λ log. rw c.test refl)
      | inr c ↦ adds expected bytes (ap (λ (a : ShardId). calls.Cas a expected bytes) c.here) refl c.commit c.grows (λ log. rw c.test refl)
    ]
log_step shard before (calls.Cas s expected bytes) FailedLost = idle refl (λ log. refl)

-- what an entry does to the bytes under a key
pub data BlobStep (key : PartKey) (before : Stored) (call : Call) (outcome : Outcome) : Type 0 where
  same : (after_outcome before call outcome).blobs key ≡ before.blobs key → BlobStep key before call outcome
  set : (bytes : List ℕ) → call ≡ calls.Set key bytes → (after_outcome before call outcome).blobs key ≡ Some bytes →
      BlobStep key before call outcome
  gone : call ≡ calls.Delete key → (after_outcome before call outcome).blobs key ≡ None → BlobStep key before call outcome

set_effect : (k key : PartKey) (before : Stored) (b : Option (List ℕ)) →
    (cond (is_eq (key_cmp k key)) b (before.blobs key) ≡ before.blobs key) ⊎
    ((k ≡ key) × (cond (is_eq (key_cmp k key)) b (before.blobs key) ≡ b))
set_effect k key before b =
    elim (bool_cases (is_eq (key_cmp k key))) [ inl e ↦ inr (key_eq k key e, ap (λ (t : Bool). cond t b (before.blobs key)) e) | inr e ↦ inl (ap (λ (t : Bool). cond t b (before.blobs key)) e) ]

cas_blobs : (s : ShardId) (before : Stored) (expected : Option ℕ) (bytes : List ℕ) (key : PartKey) →
    (after_call before (calls.Cas s expected bytes)).blobs key ≡ before.blobs key
cas_blobs s before expected bytes key = refl

pub blob_step : (key : PartKey) (before : Stored) (call : Call) (outcome : Outcome) → BlobStep key before call outcome
blob_step key before call FailedLost = same refl
blob_step key before (calls.Head s) Took = same refl
blob_step key before (calls.Head s) FailedTook = same refl
blob_step key before (calls.Scan s from) Took = same refl
blob_step key before (calls.Scan s from) FailedTook = same refl
blob_step key before (calls.Get k) Took = same refl
blob_step key before (calls.Get k) FailedTook = same refl
blob_step key before (calls.Truncate s below) Took = same refl
blob_step key before (calls.Truncate s below) FailedTook = same refl
blob_step key before (calls.Cas s expected bytes) Took = same (cas_blobs s before expected bytes key)
blob_step key before (calls.Cas s expected bytes) FailedTook = same (cas_blobs s before expected bytes key)
blob_step key before (calls.Set k b) Took = elim (set_effect k key before (Some b)) [ inl e ↦ same e | inr p ↦ set b (ap (λ (q : PartKey). calls.Set q b) p.0) p.1 ]
blob_step key before (calls.Set k b) FailedTook = elim (set_effect k key before (Some b)) [ inl e ↦ same e | inr p ↦ set b (ap (λ (q : PartKey). calls.Set q b) p.0) p.1 ]
blob_step key before (calls.Delete k) Took = elim (set_effect k key before None) [ inl e ↦ same e | inr p ↦ gone (ap calls.Delete p.0) p.1 ]
blob_step key before (calls.Delete k) FailedTook = elim (set_effect k key before None) [ inl e ↦ same e | inr p ↦ gone (ap calls.Delete p.0) p.1 ]

-- an own entry is the newest one, or an older one
pub among_mine : (P : Answered → Type 0) (start : Stored) (e : Entry) (es : List Entry) (c : ℕ) →
    Among P (mine_back start (e ∷ es) c) → ((e.client ≡ c) × P (answered e (reply (replay_back start es) e))) ⊎
    Among P (mine_back start es c)
among_mine P start e es c h =
    elim (bool_cases (eqb e.client c)) [
      | inl q ↦ elim (subst (λ (b : Bool). Among P (cond b (answered e (reply (replay_back start es) e) ∷ mine_back start es c) (mine_back start es c))) q h) [ inl p ↦ inl (eqb-true e.client c q, p) | inr r ↦ inr r ]
      | inr q ↦ inr (subst (λ (b : Bool). Among P (cond b (answered e (reply (replay_back start es) e) ∷ mine_back start es c) (mine_back start es c))) q h)
    ]

pub mine_older : (P : Answered → Type 0) (start : Stored) (e : Entry) (es : List Entry) (c : ℕ) →
    Among P (mine_back start es c) → Among P (mine_back start (e ∷ es) c)
mine_older P start e es c h = elim (bool_cases (eqb e.client c)) [ inl q ↦ rw q (inr h) | inr q ↦ rw q h ]

pub mine_newest : (P : Answered → Type 0) (start : Stored) (e : Entry) (es : List Entry) →
    P (answered e (reply (replay_back start es) e)) → Among P (mine_back start (e ∷ es) e.client)
mine_newest P start e es h = let q : eqb e.client e.client ≡ true = eq-eqb e.client e.client refl in rw q (inl h)

-- the newest entry is allowed
pub lawful_newest : (start : Stored) (e : Entry) (es : List Entry) → LawfulBack start (e ∷ es) →
    Allows (mine_back start es e.client) e.call
lawful_newest start e es l =
    let q : eqb e.client e.client ≡ true = eq-eqb e.client e.client refl in
    (subst (λ (b : Bool). OwnLawful (cond b (answered e (reply (replay_back start es) e) ∷ mine_back start es e.client) (mine_back start es e.client))) q (l e.client)).0

-- a prefix of a lawful history is lawful
pub lawful_older : (start : Stored) (e : Entry) (es : List Entry) → LawfulBack start (e ∷ es) → LawfulBack start es
lawful_older start e es l c =
    elim (bool_cases (eqb e.client c)) [
      | inl q ↦ (subst (λ (b : Bool). OwnLawful (cond b (answered e (reply (replay_back start es) e) ∷ mine_back start es c) (mine_back start es c))) q (l c)).1
      | inr q ↦ subst (λ (b : Bool). OwnLawful (cond b (answered e (reply (replay_back start es) e) ∷ mine_back start es c) (mine_back start es c))) q (l c)
    ]

-- a Cas changes no bytes under a key
pub cas_keeps : (call : Call) (s : ShardId) (expected : Option ℕ) (bytes : List ℕ) → call ≡ calls.Cas s expected bytes →
    (store : Stored) (outcome : Outcome) (key : PartKey) → (after_outcome store call outcome).blobs key ≡ store.blobs key
cas_keeps call s expected bytes e store outcome key = subst (λ (q : Call). (after_outcome store q outcome).blobs key ≡ store.blobs key) (sym e) (kept outcome)
  where
    kept : (o : Outcome) → (after_outcome store (calls.Cas s expected bytes) o).blobs key ≡ store.blobs key
    kept Took = cas_blobs s store expected bytes key
    kept FailedTook = cas_blobs s store expected bytes key
    kept FailedLost = refl
