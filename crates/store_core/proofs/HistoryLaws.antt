-- Laws of histories and of the table of replies.
use Rattle.std.proofs.Common.{◌≡◌, ℕ, ◌+◌, ◌≤◌, Bool, true, false, cond, Option, List, [], ◌∷◌, ◌++◌, refl, sym, subst, arith}
use Rattle.std.specs.Prelude.{nat_le, filter}
use Rattle.std.proofs.lemmas.Bool.Decides.{nat_tests}
use Rattle.store_core.specs.declared.shards.ShardId.{ShardId}
use Rattle.store_core.specs.declared.calls.Call.{Call}
use Rattle.store_core.specs.declared.calls.Call.TheVariants as calls
use Rattle.store_core.specs.declared.replies.Reply.TheVariants as replies
use Rattle.store_core.specs.declared.outcomes.Outcome.{Outcome}
use Rattle.store_core.specs.declared.outcomes.Outcome.TheVariants.{Took, FailedTook, FailedLost}
use Rattle.store_core.specs.declared.entries.Entry.{Entry}
use Rattle.store_core.specs.Stores.{Stored, numbered, same_number, last_number, is_last_number, next_number}
use Rattle.store_core.specs.Histories.{replay, next, reply_by, IsReplyTo, IsScanFrom, RisesFrom}

-- the last entry comes last
pub replay-push : (s : Stored) (es : List Entry) (e : Entry) → replay s (es ++ e ∷ []) ≡ next (replay s es) e
replay-push s [] e = refl
replay-push s (x ∷ es) e = replay-push (next s x) es e

below : (a b : ℕ) → nat_le a b ≡ true → a ≤ b
below a b h = grind (arith, nat_tests)

at_least : (a b : ℕ) → a ≤ b → nat_le a b ≡ true
at_least a b h = grind (arith, nat_tests)

rises : (from n : ℕ) (bs : List (List ℕ)) → from ≤ n → RisesFrom n (filter (λ v. nat_le from v.number) (numbered n bs))
rises from n [] h = tt
rises from n (b ∷ bs) h =
    subst (λ t. RisesFrom n (cond t (record { number = n; bytes = b } ∷ filter (λ v. nat_le from v.number) (numbered (n + 1) bs)) (filter (λ v. nat_le from v.number) (numbered (n + 1) bs))))
    (sym (at_least from n h)) (refl, rises from (n + 1) bs (omega arith))

scan_from : (from n : ℕ) (bs : List (List ℕ)) → IsScanFrom from (filter (λ v. nat_le from v.number) (numbered n bs))
scan_from from n [] = tt
scan_from from n (b ∷ bs) =
    elim (nat_le from n) as (λ t. nat_le from n ≡ t → IsScanFrom from (cond t (record { number = n; bytes = b } ∷ filter (λ v. nat_le from v.number) (numbered (n + 1) bs)) (filter (λ v. nat_le from v.number) (numbered (n + 1) bs)))) [
      | true ↦ λ is. let le : from ≤ n = below from n is in (le, (refl, rises from (n + 1) bs (omega arith)))
      | false ↦ λ _. scan_from from (n + 1) bs
    ] refl

cas_shape : (shard : ShardId) (expected : Option ℕ) (bytes : List ℕ) (a b : Bool) (n : ℕ) → IsReplyTo (calls.Cas shard expected bytes) (cond a (cond b replies.Spent (replies.Committed n)) replies.Mismatch)
cas_shape shard expected bytes true true n = tt
cas_shape shard expected bytes true false n = tt
cas_shape shard expected bytes false b n = tt

-- each reply of the table is of its call's row
pub shaped : (s : Stored) (c : Call) (o : Outcome) → IsReplyTo c (reply_by s c o)
shaped s (calls.Head shard) Took = tt
shaped s (calls.Scan shard from) Took = scan_from from (s.logs shard).first (s.logs shard).versions
shaped s (calls.Cas shard expected bytes) Took = cas_shape shard expected bytes (same_number expected (last_number (s.logs shard))) (is_last_number expected) (next_number expected)
shaped s (calls.Truncate shard b) Took = tt
shaped s (calls.Get key) Took = tt
shaped s (calls.Set key bytes) Took = tt
shaped s (calls.Delete key) Took = tt
shaped s (calls.Head shard) FailedTook = tt
shaped s (calls.Scan shard from) FailedTook = tt
shaped s (calls.Cas shard expected bytes) FailedTook = tt
shaped s (calls.Truncate shard b) FailedTook = tt
shaped s (calls.Get key) FailedTook = tt
shaped s (calls.Set key bytes) FailedTook = tt
shaped s (calls.Delete key) FailedTook = tt
shaped s (calls.Head shard) FailedLost = tt
shaped s (calls.Scan shard from) FailedLost = tt
shaped s (calls.Cas shard expected bytes) FailedLost = tt
shaped s (calls.Truncate shard b) FailedLost = tt
shaped s (calls.Get key) FailedLost = tt
shaped s (calls.Set key bytes) FailedLost = tt
shaped s (calls.Delete key) FailedLost = tt
