-- What a walk over a trail has seen is what the trail did.
use Rattle.std.proofs.Common.{◌≡◌, ◌&&◌, ℕ, ◌+◌, ◌<◌, Bool, true, false, cond, List, [], ◌∷◌, ◌++◌, inl, inr, take, get_or, length, Option, Some, None, refl, sym, ap, ◌∙◌, subst}
use Rattle.std.specs.Prelude.{reverse, not, ◌==◌, ◌-◌, ◌^◌}
use Rattle.std.specs.List.{AllByRecursion}
use Rattle.std.specs.Ordering.{is_eq}
use Rattle.std.proofs.lemmas.List.{take_more}
use Rattle.update_core.specs.declared.updates.Update.{Update}
use Rattle.store_core.specs.declared.shards.ShardId.{ShardId}
use Rattle.store_core.specs.declared.part_keys.PartKey.{PartKey}
use Rattle.store_core.specs.declared.calls.Call.{Call}
use Rattle.store_core.specs.declared.calls.Call.TheVariants as calls
use Rattle.store_core.specs.declared.outcomes.Outcome.{Outcome}
use Rattle.store_core.specs.declared.outcomes.Outcome.TheVariants.{Took, FailedTook, FailedLost}
use Rattle.store_core.specs.declared.entries.Entry.{Entry}
use Rattle.store_core.specs.Changes.{commits}
use Rattle.store_core.specs.Stores.{Log, Stored, key_cmp, same_number, last_number, next_number}
use Rattle.store_core.specs.Histories.{next, after_outcome}
use Rattle.store_core.specs.Newest.{replay_back}
use Rattle.store_core.proofs.NewestLaws.{newest-first, oldest-last, replay_back-oldest}
use Rattle.state_core.specs.Lists.{Among}
use Rattle.state_core.proofs.ListLemmas.{bool_cases, each_append, each_front}
use Rattle.history_core.specs.Histories.{took_effect}
use Rattle.history_core.specs.Walks.{Walked, number_given, after_given, walk_call, walk_entry, walk_back}
use Rattle.history_core.specs.Accepting.{takes_cas, CommitsAt, FirstCommits}
use Rattle.history_core.proofs.Entries.{key_same}

-- one more entry of a trail
pub one_more_entry : (list : List Update) (trail : List Entry) (i : ℕ) (d : Entry) → i < length trail
    → walk_back list (reverse (take (i + 1) trail)) ≡ walk_entry (walk_back list (reverse (take i trail))) (get_or trail i d)
one_more_entry list trail i d lt = ap (λ (es : List Entry). walk_back list (reverse es)) (take_more trail i d lt)
    ∙ ap (walk_back list) (newest-first (take i trail) (get_or trail i d))

-- ---- entries of which the newest comes first

-- no Cas took effect
abbrev pub NoCas : List Entry → Type 0
NoCas es = AllByRecursion (λ e. takes_cas e ≡ false) es

-- a Cas that took effect, before which none did, committed
abbrev pub FirstBack : Stored → ShardId → List Entry → Type 0
FirstBack start shard [] = Unit {0}
FirstBack start shard (e ∷ es) = (NoCas es → takes_cas e ≡ true → CommitsAt (replay_back start es) shard e.call) × FirstBack start shard es

first_oldest_cas : (s : Stored) (shard : ShardId) (es : List Entry) (e : Entry) → takes_cas e ≡ true → CommitsAt s shard e.call
    → FirstBack s shard (es ++ e ∷ [])
first_oldest_cas s shard [] e t c = ((λ none u. c), tt)
first_oldest_cas s shard (x ∷ es) e t c = ((λ none u. absurd (some es none)), first_oldest_cas s shard es e t c)
  where
    some : (es : List Entry) → NoCas (es ++ e ∷ []) → ⊥
    some [] h = let a = h.0 in cc
    some (y ∷ es) h = some es h.1

first_oldest_other : (s : Stored) (shard : ShardId) (es : List Entry) (e : Entry) → takes_cas e ≡ false
    → FirstBack (next s e) shard es → FirstBack s shard (es ++ e ∷ [])
first_oldest_other s shard [] e t c = ((λ none u. absurd (cc)), tt)
first_oldest_other s shard (x ∷ es) e t c =
    ((λ none u. subst (λ (q : Stored). CommitsAt q shard x.call) (sym (replay_back-oldest s es e)) (c.0 (each_front (λ y. takes_cas y ≡ false) es (e ∷ []) none) u)), first_oldest_other s shard es e t c.1)

pub first_back : (s : Stored) (shard : ShardId) (es : List Entry) → FirstCommits s shard es → FirstBack s shard (reverse es)
first_back s shard [] h = tt
first_back s shard (e ∷ es) h =
    subst (FirstBack s shard) (sym (oldest-last e es))
    (elim (bool_cases (takes_cas e)) [
      | inl t ↦ first_oldest_cas s shard (reverse es) e t (h.0 t)
      | inr t ↦ first_oldest_other s shard (reverse es) e t (first_back (next s e) shard es (h.1 t))
    ])

pub all_back : (P : Entry → Type 0) (es : List Entry) → AllByRecursion P es → AllByRecursion P (reverse es)
all_back P [] h = tt
all_back P (e ∷ es) h = subst (AllByRecursion P) (sym (oldest-last e es)) (each_append P (reverse es) (e ∷ []) (all_back P es h.1) (h.0, tt))

-- ---- the bytes under keys

-- a call that sets or deletes the key
abbrev pub IsWrite : PartKey → Call → Type 0
IsWrite k (calls.Set q bytes) = q ≡ k
IsWrite k (calls.Delete q) = q ≡ k
IsWrite k _ = ⊥

-- the key was set or deleted
abbrev pub IsWritten : PartKey → List Entry → Type 0
IsWritten k es = Among (λ e. (took_effect e.outcome ≡ true) × IsWrite k e.call) es

given_blobs : (w : Walked) (shard : ShardId) (expected : Option ℕ) (bytes : List ℕ) (o : Option ℕ)
    → (after_given w shard expected bytes o).blobs ≡ w.blobs
given_blobs w shard expected bytes None = refl
given_blobs w shard expected bytes (Some n) = refl

module _ (w : Walked) (s : Stored) (k : PartKey) where
  keeps_call : (call : Call) → w.blobs k ≡ s.blobs k → (walk_call w call).blobs k ≡ (after_outcome s call Took).blobs k
  keeps_call (calls.Head d) h = h
  keeps_call (calls.Scan d from) h = h
  keeps_call (calls.Truncate d below) h = h
  keeps_call (calls.Get q) h = h
  keeps_call (calls.Cas d expected bytes) h = ap (λ (f : PartKey → Option (List ℕ)). f k) (given_blobs w d expected bytes (number_given w.last expected)) ∙ h
  keeps_call (calls.Set q bytes) h = ap (λ (x : Option (List ℕ)). cond (is_eq (key_cmp q k)) (Some bytes) x) h
  keeps_call (calls.Delete q) h = ap (λ (x : Option (List ℕ)). cond (is_eq (key_cmp q k)) None x) h

  keeps_outcome : (call : Call) (outcome : Outcome) → w.blobs k ≡ s.blobs k
      → (cond (took_effect outcome) (walk_call w call) w).blobs k ≡ (after_outcome s call outcome).blobs k
  keeps_outcome call Took h = keeps_call call h
  keeps_outcome call FailedTook h = keeps_call call h
  keeps_outcome call FailedLost h = h

  here : (q : PartKey) (v x y : Option (List ℕ)) → q ≡ k → cond (is_eq (key_cmp q k)) v x ≡ cond (is_eq (key_cmp q k)) v y
  here q v x y e =
      let same : is_eq (key_cmp q k) ≡ true = subst (λ (p : PartKey). is_eq (key_cmp q p) ≡ true) e (key_same q) in
      ap (λ (b : Bool). cond b v x) same ∙ sym (ap (λ (b : Bool). cond b v y) same)

  writes_call : (call : Call) → IsWrite k call → (walk_call w call).blobs k ≡ (after_outcome s call Took).blobs k
  writes_call (calls.Head d) h = absurd h
  writes_call (calls.Scan d from) h = absurd h
  writes_call (calls.Truncate d below) h = absurd h
  writes_call (calls.Get q) h = absurd h
  writes_call (calls.Cas d expected bytes) h = absurd h
  writes_call (calls.Set q bytes) h = here q (Some bytes) (w.blobs k) (s.blobs k) h
  writes_call (calls.Delete q) h = here q None (w.blobs k) (s.blobs k) h

  writes_outcome : (call : Call) (outcome : Outcome) → took_effect outcome ≡ true → IsWrite k call
      → (cond (took_effect outcome) (walk_call w call) w).blobs k ≡ (after_outcome s call outcome).blobs k
  writes_outcome call Took t h = writes_call call h
  writes_outcome call FailedTook t h = writes_call call h
  writes_outcome call FailedLost t h = absurd (cc)

-- a walk knows the bytes of each key that was written
pub bytes_known : (list : List Update) (start : Stored) (es : List Entry) (k : PartKey) → IsWritten k es
    → (walk_back list es).blobs k ≡ (replay_back start es).blobs k
bytes_known list start [] k h = absurd h
bytes_known list start (e ∷ es) k (inl p) = writes_outcome (walk_back list es) (replay_back start es) k e.call e.outcome p.0 p.1
bytes_known list start (e ∷ es) k (inr p) = keeps_outcome (walk_back list es) (replay_back start es) k e.call e.outcome (bytes_known list start es k p)

-- ---- numbers

-- the number that a walk gives is the one that the log gives, where the walk knows the log's last number or the Cas commits
pub given_is : (log : Log) (last expected : Option ℕ) → ((n : ℕ) → last ≡ Some n → last_number log ≡ Some n)
    → (last ≡ None → commits log expected ≡ true)
    → number_given last expected ≡ cond (commits log expected) (Some (next_number expected)) None
given_is log None None known first = sym (ap (λ (b : Bool). cond b (Some 0) None) (first refl))
given_is log (Some l) None known first = sym (ap (λ (b : Bool). cond b (Some 0) None) (ap (λ (o : Option ℕ). same_number None o && true) (known l refl)))
given_is log None (Some n) known first = past (same_number (Some n) (last_number log)) (n == 2 ^ 64 - 1) (first refl)
    ∙ sym (ap (λ (b : Bool). cond b (Some (n + 1)) None) (first refl))
  where
    past : (a b : Bool) → a && not b ≡ true → cond b None (Some (n + 1)) ≡ Some (n + 1)
    past true true h = absurd (cc)
    past true false h = refl
    past false b h = absurd (cc)
given_is log (Some l) (Some n) known first = split (n == l) (n == 2 ^ 64 - 1)
    ∙ sym (ap (λ (o : Option ℕ). cond (same_number (Some n) o && not (n == 2 ^ 64 - 1)) (Some (n + 1)) None) (known l refl))
  where
    split : (a b : Bool) → cond a (cond b None (Some (n + 1))) None ≡ cond (a && not b) (Some (n + 1)) None
    split true true = refl
    split true false = refl
    split false b = refl
