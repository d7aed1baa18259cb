-- What an entry appends to a shard's list.
use Rattle.std.proofs.Common.{◌≡◌, ◌&&◌, ℕ, ◌+◌, true, List, [], inl, inr, refl, arith, subst, sym, ap, Some, None, Option}
use Rattle.store_core.specs.declared.shards.ShardId.{ShardId}
use Rattle.store_core.specs.declared.calls.Call.{Call}
use Rattle.store_core.specs.declared.calls.Call.TheVariants as calls
use Rattle.store_core.specs.declared.entries.Entry.{Entry}
use Rattle.store_core.specs.Changes.{commits}
use Rattle.store_core.specs.Stores.{Log, Stored, committed}
use Rattle.state_core.specs.declared.transitions.Transition.{Transition}
use Rattle.state_core.specs.States.{ShardState}
use Rattle.version_codec.specs.Reading.{version_in}
use Rattle.state_core.proofs.ListLemmas.{bool_cases}
use Rattle.history_core.specs.Histories.{same_shard, took_effect, grown}
use Rattle.history_core.specs.Stands.{end_of, appended_by, appended}
use Rattle.history_core.proofs.Logs.{end_of-committed}
use Rattle.history_core.proofs.Entries.{shard_same}

-- an entry that adds no version appends nothing
pub appended_idle : (store : Stored) (shard : ShardId) (e : Entry) (call : Call) (all : Log) →
    grown shard (store.logs shard) call e.outcome all ≡ all → appended store shard e call ≡ []
appended_idle store shard e (calls.Cas s (Some n) bytes) all h = elim (bool_cases (took_effect e.outcome && (same_shard s shard && commits (store.logs shard) (Some n)))) [
  | inl t ↦
      let h2 : committed all bytes ≡ all = rw t at h in
      let n2 : end_of (committed all bytes) ≡ end_of all = ap end_of h2 in
      let n3 : end_of (committed all bytes) ≡ end_of all + 1 = end_of-committed all bytes in
      absurd (omega arith)
  | inr f ↦ rw f refl
]
appended_idle store shard e (calls.Cas s None bytes) all h = refl
appended_idle store shard e (calls.Head s) all h = refl
appended_idle store shard e (calls.Scan s from) all h = refl
appended_idle store shard e (calls.Truncate s below) all h = refl
appended_idle store shard e (calls.Get k) all h = refl
appended_idle store shard e (calls.Set k b) all h = refl
appended_idle store shard e (calls.Delete k) all h = refl

pub appended_none : (store : Stored) (shard : ShardId) (e : Entry) (call : Call) (expected : Option ℕ) (bytes : List ℕ) →
    call ≡ calls.Cas shard expected bytes → expected ≡ None → appended store shard e call ≡ []
appended_none store shard e call expected bytes c n =
    subst (λ (q : Call). appended store shard e q ≡ []) (sym c) (subst (λ (o : Option ℕ). appended store shard e (calls.Cas shard o bytes) ≡ []) (sym n) refl)

pub appended_grown : (store : Stored) (shard : ShardId) (e : Entry) (call : Call) (expected : Option ℕ) (n : ℕ)
    (bytes : List ℕ) (to : ShardState) (step : Transition) → call ≡ calls.Cas shard expected bytes → expected ≡ Some n →
    took_effect e.outcome ≡ true →
    commits (store.logs shard) expected ≡ true → version_in shard (n + 1) bytes ≡ Some (to, step) → appended store shard e call ≡ appended_by store (Some (to, step))
appended_grown store shard e call expected n bytes to step c ex t k w =
    let k2 : commits (store.logs shard) (Some n) ≡ true = subst (λ (o : Option ℕ). commits (store.logs shard) o ≡ true) ex k in
    subst (λ (q : Call). appended store shard e q ≡ appended_by store (Some (to, step))) (sym c)
    (subst (λ (o : Option ℕ). appended store shard e (calls.Cas shard o bytes) ≡ appended_by store (Some (to, step))) (sym ex)
    (rw (t, shard_same shard, k2, w) refl))
