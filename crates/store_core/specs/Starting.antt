-- What a store in memory starts with.
use Rattle.std.specs.Prelude.{◌≡◌, ℕ, ◌+◌, ◌^◌, ◌<◌, ◌≤◌, Bool, false, ⊤, List, [], ◌∷◌, length, map, unwrap_or}
use Rattle.std.specs.List.{AllByRecursion}
use Rattle.std.specs.Ordering.{eq_by_cmp}
use Rattle.std.specs.Map.{lookup}
use Rattle.store_core.specs.declared.shards.ShardId.{ShardId}
use Rattle.store_core.specs.declared.part_keys.PartKey.{PartKey}
use Rattle.store_core.specs.Stores.{Log, Stored, key_cmp, shard_cmp, no_log}

-- whether two keys are one
abbrev pub same_key : PartKey → PartKey → Bool
same_key a b = eq_by_cmp key_cmp a b

-- whether two shards are one
abbrev pub same_shard : ShardId → ShardId → Bool
same_shard a b = eq_by_cmp shard_cmp a b

-- no two of a list are one
abbrev pub NoneTwice : {K : Type 0} → (K → K → Bool) → List K → Type 0
NoneTwice same [] = ⊤
NoneTwice same (x ∷ xs) = AllByRecursion (λ y. same x y ≡ false) xs × NoneTwice same xs

-- a shard has a version, and the number of its last is below 2 ^ 64
abbrev pub CanStart : ShardId × ℕ × List (List ℕ) → Type 0
CanStart s = (0 < length s.2) × (s.1 + length s.2 ≤ 2 ^ 64)

-- the shards of a list
abbrev pub shards_of : List (ShardId × ℕ × List (List ℕ)) → List ShardId
shards_of xs = map (λ x. x.0) xs

-- a shard with its log
abbrev pub log_entry : ShardId × ℕ × List (List ℕ) → ShardId × Log
log_entry s = (s.0, record { first = s.1; versions = s.2 })

-- the store in which each listed key has its bytes and each listed shard its versions, and no other has any
abbrev pub starting_store : List (PartKey × List ℕ) → List (ShardId × ℕ × List (List ℕ)) → Stored
starting_store blobs shards = record {
  blobs = λ k. lookup (same_key k) blobs;
  logs = λ s. unwrap_or (lookup (same_shard s) (map log_entry shards)) no_log;
}
