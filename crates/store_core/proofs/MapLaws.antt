-- Maps of one's own keys, and answers that carry a fact.
use Rattle.std.proofs.Common.{◌≡◌, Bool, true, false, cond, Option, Some, refl, sym, ap, ◌∙◌}
use Rattle.std.specs.Prelude.{unwrap_or}
use Rattle.std.specs.Ordering.{is_eq}
use Rattle.std.specs.declared.cmp.Ordering.{Ordering}
use Rattle.std.specs.declared.cmp.Ordering.TheVariants.{Less, Equal, Greater}
use Rattle.std.specs.BTreeMap.{BTreeMap, get}
use Rattle.std.proofs.lemmas.Map.Lookups.{CmpEqualImpliesEq, exact_unsigned}
use Rattle.store_core.specs.declared.shards.ShardId.{ShardId}
use Rattle.store_core.specs.Stores.{Log, no_log, shard_cmp}
use Rattle.store_core.specs.Contents.{logs_of}

pub exact_shards : CmpEqualImpliesEq shard_cmp
exact_shards a b h = ap (λ n. record { 0 = n }) (exact_unsigned a.0 b.0 h)

tied : (r : Ordering) → is_eq r ≡ true → r ≡ Equal
tied Less h = cc
tied Equal h = refl
tied Greater h = cc

chosen : {X : Type 0} (b : Bool) (v m : Option X) → (b ≡ true → m ≡ v) → cond b v m ≡ m
chosen true v m h = sym (h refl)
chosen false v m h = refl

-- to write what is there changes nothing
pub logs_rewritten : (m n : BTreeMap ShardId Log) (k : ShardId) (v : Log) → ((q : ShardId) → get shard_cmp n q ≡ cond (is_eq (shard_cmp k q)) (Some v) (get shard_cmp m q)) → get shard_cmp m k ≡ Some v → logs_of n ≡ logs_of m
logs_rewritten m n k v updates here = λ i q.
    unwrap_or ((updates q ∙ chosen (is_eq (shard_cmp k q)) (Some v) (get shard_cmp m q) (λ e. ap (get shard_cmp m) (sym (exact_shards k q (tied (shard_cmp k q) e))) ∙ here)) i) no_log
