-- A call that isn't a change leaves the store as it is.
use Rattle.std.proofs.Common.{◌≡◌, Bool, true, false, cond, refl, ap, ◌∙◌}
use Rattle.std.specs.Prelude.{not, ◌&&◌}
use Rattle.std.specs.Ordering.{is_eq}
use Rattle.std.specs.declared.cmp.Ordering.{Ordering}
use Rattle.std.specs.declared.cmp.Ordering.TheVariants.{Less, Equal, Greater}
use Rattle.store_core.specs.declared.shards.ShardId.{ShardId}
use Rattle.store_core.specs.declared.calls.Call.{Call}
use Rattle.store_core.specs.declared.calls.Call.TheVariants as calls
use Rattle.store_core.specs.Stores.{Log, Stored, shard_cmp, with_log, committed, same_number, last_number}
use Rattle.store_core.specs.Stores.{is_last_number, after_call}
use Rattle.store_core.specs.Changes.{changes}
use Rattle.store_core.proofs.MapLaws.{exact_shards}

tied : (r : Ordering) → is_eq r ≡ true → r ≡ Equal
tied Less h = cc
tied Equal h = refl
tied Greater h = cc

chosen : (b : Bool) (v m : Log) → (b ≡ true → v ≡ m) → cond b v m ≡ m
chosen true v m h = h refl
chosen false v m h = refl

-- to write what is there changes nothing
same_log : (s : Stored) (d : ShardId) → with_log s d (s.logs d) ≡ s
same_log s d = λ i. record {
  blobs = s.blobs;
  logs =
      λ q. chosen (is_eq (shard_cmp d q)) (s.logs d) (s.logs q) (λ e. ap s.logs (exact_shards d q (tied (shard_cmp d q) e))) i;
}

no_commit : (same last : Bool) (log more : Log) → (same && not last) ≡ false → cond same (cond last log more) log ≡ log
no_commit false last log more h = refl
no_commit true true log more h = refl
no_commit true false log more h = absurd cc

pub unchanged : (s : Stored) (c : Call) → changes s c ≡ false → after_call s c ≡ s
unchanged s (calls.Head shard) h = refl
unchanged s (calls.Scan shard from) h = refl
unchanged s (calls.Cas shard expected bytes) h =
    ap (λ (l : Log). with_log s shard l) (no_commit (same_number expected (last_number (s.logs shard))) (is_last_number expected)
    (s.logs shard) (committed (s.logs shard) bytes) h) ∙ same_log s shard
unchanged s (calls.Truncate shard below) h = absurd cc
unchanged s (calls.Get key) h = refl
unchanged s (calls.Set key bytes) h = absurd cc
unchanged s (calls.Delete key) h = absurd cc
