-- What a store starts with, in laws.
use Rattle.std.proofs.Common.{◌≡◌, ℕ, Bool, None, arith, List, [], ◌∷◌, map, refl, sym, ap, subst}
use Rattle.std.specs.List.{IsDistinct}
use Rattle.std.specs.Map.{keys_of, lookup, update_all}
use Rattle.std.specs.Cmp.{IsTotalOrder}
use Rattle.std.proofs.lemmas.Cmp.{eq_by_cmp_equiv, then_total, on_total, nat_cmp_total}
use Rattle.std.proofs.lemmas.Map.Keys.{IsDistinct-cons, IsDistinct-from_apart}
use Rattle.std.proofs.lemmas.Map.Made.{update_all_none}
use Rattle.store_core.specs.declared.shards.ShardId.{ShardId}
use Rattle.store_core.specs.declared.part_keys.PartKey.{PartKey}
use Rattle.store_core.specs.Stores.{key_cmp, shard_cmp}
use Rattle.store_core.specs.Starting.{same_key, same_shard, NoneTwice, shards_of, log_entry}

keys_of-logs : (xs : List (ShardId × ℕ × List (List ℕ))) → keys_of (map log_entry xs) ≡ shards_of xs
keys_of-logs [] = refl
keys_of-logs (x ∷ xs) = ap (λ ks. x.0 ∷ ks) (keys_of-logs xs)

shard_total : IsTotalOrder shard_cmp
shard_total = on_total (λ (s : ShardId). s.0) nat_cmp_total

key_total : IsTotalOrder key_cmp
key_total =
    then_total (on_total (λ (k : PartKey). k.shard) shard_total)
    (then_total (on_total (λ (k : PartKey). k.member) nat_cmp_total) (then_total (on_total (λ (k : PartKey). k.token) nat_cmp_total) (on_total (λ (k : PartKey). k.index) nat_cmp_total)))

distinct : {K : Type 0} (same : K → K → Bool) (xs : List K) → NoneTwice same xs → IsDistinct same xs
distinct same [] d = IsDistinct-from_apart same [] (λ i j e a b. absurd (omega arith))
distinct same (x ∷ xs) d = IsDistinct-cons same x xs d.0 (distinct same xs d.1)

-- blobs with different keys, set in turn in an empty store
pub blobs_set : (blobs : List (PartKey × List ℕ)) → NoneTwice same_key (keys_of blobs) → update_all same_key (λ _. None) blobs ≡ (λ k. lookup (same_key k) blobs)
blobs_set blobs d = λ i k. update_all_none (eq_by_cmp_equiv key_total) same_key (λ x y. refl) blobs k (distinct same_key (keys_of blobs) d) i

-- different shards, set in turn in an empty store
pub logs_set : (shards : List (ShardId × ℕ × List (List ℕ))) → NoneTwice same_shard (shards_of shards) → update_all same_shard (λ _. None) (map log_entry shards) ≡ (λ s. lookup (same_shard s) (map log_entry shards))
logs_set shards d = λ i s. update_all_none (eq_by_cmp_equiv shard_total) same_shard (λ x y. refl) (map log_entry shards) s (subst (λ ks. IsDistinct same_shard ks) (sym (keys_of-logs shards)) (distinct same_shard (shards_of shards) d)) i
