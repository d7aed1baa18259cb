-- What a compactor tries, and where it goes on. Entries go newest first.
use Rattle.std.proofs.Common.{◌≡◌, ℕ, ◌<◌, Option, Some, None, List, [], length}
use Rattle.std.proofs.Common.{◌&&◌, inl, inr, refl, sym, ap, subst, ◌∙◌, arith}
use Rattle.std.specs.Prelude.{⊤, unwrap_or, ◌==◌}
use Rattle.spine_core.specs.declared.batches.Batch.{Batch}
use Rattle.store_core.specs.declared.shards.ShardId.{ShardId}
use Rattle.store_core.specs.declared.part_keys.PartKey.{PartKey}
use Rattle.store_core.specs.declared.entries.Entry.{Entry}
use Rattle.store_core.specs.Stores.{Stored}
use Rattle.state_core.specs.declared.kinds.Kind.TheVariants.{Keeper}
use Rattle.state_core.specs.declared.refusals.Refusal.{Refusal}
use Rattle.state_core.specs.declared.refusals.Refusal.TheVariants as refusals
use Rattle.state_core.specs.declared.transitions.Transition.TheVariants.{Join, Leave, Merge, Renew}
use Rattle.state_core.specs.Steps.{AreKeys}
use Rattle.state_core.proofs.ListLemmas.{bool_cases}
use Rattle.history_core.specs.declared.asked.Asked.{Asked}
use Rattle.history_core.specs.declared.asked.Asked.TheVariants as asks
use Rattle.load_core.specs.declared.tries.Tried.{Tried}
use Rattle.load_core.specs.declared.tries.Tried.TheVariants as tries
use Rattle.load_core.specs.Runs.{IsNotIn}
use Rattle.load_core.specs.Setting as setting
use Rattle.change_core.proofs.Forms.{committed_as, refused_as}
use Rattle.machine_core.specs.Machines.{GoesOn}
use Rattle.read_machine.proofs.Parts.{some_is}
use Rattle.token_machine.specs.Outcomes.{token_outcome}
use Rattle.merge_core.specs.Drafting.{merged_batch, merged_rows}
use Rattle.merge_client.specs.declared.compactors.Compactor.{Compactor}
use Rattle.merge_client.specs.declared.dues.Due.{Due}
use Rattle.merge_client.specs.declared.pairs.Pair.{Pair}
use Rattle.merge_client.specs.Following.{Follows, FollowsAsked, FollowsDraft, FollowsMerge, Tries}
use Rattle.merge_client.specs.Merging.{change_poll, merge_poll, merge_refused, own_member, shard_of, verdict}

-- ---- what goes on

abbrev pub IsGoing : Tried → Type 0
IsGoing tries.Begun = ⊤
IsGoing tries.Again = ⊤
IsGoing tries.Goes = ⊤
IsGoing tries.Fault = ⊤
IsGoing _ = ⊥

pub going_out : (k : Tried) → IsGoing k → IsNotIn k
going_out (tries.Committed version) g = g
going_out other g = tt

token_ends : (c : Compactor) (refusal : Refusal) → ¬ GoesOn (merge_poll c (token_outcome c.storing.trying c.token refusal))
token_ends c (refusals.TokenOld last) g = elim (bool_cases ((last == c.token) && c.storing.trying.failed)) [
  | inl h ↦ let k : ⊥ = rw h at g in k
  | inr h ↦ let k : ⊥ = rw h at g in k
]
token_ends c refusals.NotPresent g = g
token_ends c refusals.NoMember g = g
token_ends c other g = g

-- where a poll goes on what was tried does
pub going : (c : Compactor) (asked : Asked) (tried : Tried) → GoesOn (verdict c asked tried) → IsGoing tried
going c asked tries.Begun g = tt
going c asked tries.Again g = tt
going c asked tries.Goes g = tt
going c asked tries.Fault g = tt
going c asked (tries.Committed version) g = by asked g
  where
    by : (a : Asked) → ¬ GoesOn (verdict c a (tries.Committed version))
    by asks.Merge k = k
    by other k = committed_as (λ o. ¬ GoesOn (change_poll c other o)) c.storing.trying.loader.cached c.storing.trying.step version
        (λ z. z) (λ z. z) k
going c asked (tries.Refused refusal) g = by asked g
  where
    by : (a : Asked) → ¬ GoesOn (verdict c a (tries.Refused refusal))
    by asks.Merge k = token_ends c refusal k
    by other k = refused_as (λ o. ¬ GoesOn (change_poll c other o)) c.storing.trying.loader.cached (own_member c)
        c.storing.trying.step refusal (λ z. z) (λ v z. z) (λ v z. z) (λ v z. z) (λ v z. z) k
going c asked tries.Spent g = by asked g
  where
    by : (a : Asked) → ¬ GoesOn (verdict c a tries.Spent)
    by asks.Merge k = k
    by other k = k
going c asked (tries.Damaged damage) g = by asked g
  where
    by : (a : Asked) → ¬ GoesOn (verdict c a (tries.Damaged damage))
    by asks.Merge k = k
    by other k = k

-- ---- what is tried

pub data Asks (client : ℕ) (c : Compactor) (start : Stored) (es : List Entry) (asked : Asked) : Type 0 where
  opens : (shard : ShardId) (now lease : ℕ) → asked ≡ asks.OpenCompactor shard now lease → shard ≡ shard_of c →
      Tries c (Join Keeper now lease) → Asks client c start es asked
  renews : (now m : ℕ) → asked ≡ asks.RenewCompactor now → c.member ≡ Some m → Tries c (Renew m now) → Asks client c start es asked
  closes : (m : ℕ) → asked ≡ asks.CloseCompactor → c.member ≡ Some m → Tries c (Leave m) → Asks client c start es asked
  merges : (m : ℕ) → asked ≡ asks.Merge → c.member ≡ Some m → 0 < c.token → FollowsDraft client c start es m →
      Asks client c start es asked

pub asks_of : (client : ℕ) (c : Compactor) (start : Stored) (es : List Entry) (asked : Asked) → c.asked ≡ Some asked →
    c.reading.asked ≡ None → c.pair ≡ None → Follows client c start es → Asks client c start es asked
asks_of client c start es asked is none undrafted f = by asked (subst (FollowsAsked client c start es) is f.asked)
  where
    by : (a : Asked) → FollowsAsked client c start es (Some a) → Asks client c start es a
    by (asks.OpenCompactor shard now lease) h = opens shard now lease refl h.0 h.1
    by asks.Merge h =
        let (m, named, both) = some_is (λ m. (0 < c.token) × FollowsMerge client c start es m c.reading.asked c.pair) c.member h in
        merges m refl named both.0 (subst (λ (o : Option Pair). FollowsMerge client c start es m None o) undrafted
        (subst (λ (o : Option Due). FollowsMerge client c start es m o c.pair) none both.1))
    by (asks.RenewCompactor now) h = let (m, named, t) = some_is (λ m. Tries c (Renew m now)) c.member h in renews now m refl named t
    by asks.CloseCompactor h = let (m, named, t) = some_is (λ m. Tries c (Leave m)) c.member h in closes m refl named t
    by other h = absurd h

pub step_of : (client : ℕ) (c : Compactor) (start : Stored) (es : List Entry) (m : ℕ) → c.member ≡ Some m →
    (h : FollowsDraft client c start es m) → (merged : Batch) × (c.storing.trying.step ≡ Merge m c.token h.of_pair.left h.of_pair.right merged)
step_of client c start es m named h =
    let p = h.of_pair in
    let merged = merged_batch p.left p.right p.since h.draft.setting.keys (length (merged_rows p.since p.rows)) in
    let member : own_member c ≡ m = ap (λ (o : Option ℕ). unwrap_or o 0) named in
    (merged, h.step ∙ h.is_draft.step_is ∙ ap (λ (n : ℕ). Merge n c.token p.left p.right merged) member)

pub keys_under : (client : ℕ) (c : Compactor) (start : Stored) (es : List Entry) (m : ℕ) → c.member ≡ Some m →
    (h : FollowsDraft client c start es m) → AreKeys (shard_of c) m c.token 0 c.storing.setting.keys
keys_under client c start es m named h = subst (λ (ks : List PartKey). AreKeys (shard_of c) m c.token 0 ks) (sym h.keys)
    (subst (λ (n : ℕ). AreKeys (shard_of c) n c.token 0 h.draft.setting.keys) (ap (λ (o : Option ℕ). unwrap_or o 0) named) h.is_draft.keys)

pub none_left : (c : Compactor) → c.storing.setting.keys ≡ [] → ¬ setting.IsOpen c.storing.setting
none_left c none left =
    let few : length c.storing.setting.keys ≡ 0 = ap (λ (ks : List PartKey). length ks) none in
    let less : c.storing.setting.place < length c.storing.setting.keys = left in
    omega (arith, few, less)
