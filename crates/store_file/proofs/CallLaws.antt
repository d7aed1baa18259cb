-- What becomes of what was kept when a call is taken.
use Rattle.std.proofs.Common.{◌≡◌, ℕ, true, false, sym, ap, subst, ◌∙◌}
use Rattle.std.specs.Prelude.{not}
use Rattle.std.proofs.lemmas.Bool.{and_parts, not-true}
use Rattle.store_core.specs.declared.calls.Call.{Call}
use Rattle.store_core.specs.declared.calls.Call.TheVariants as calls
use Rattle.store_core.specs.Stores.{Stored, after_call, same_number, last_number, is_last_number}
use Rattle.store_core.specs.Changes.{changes}
use Rattle.journal_core.specs.Disks.{DiskHistory}
use Rattle.store_file.specs.Payloads.{HasNext, IsChange}
use Rattle.store_file.specs.Replays.{Keeps}
use Rattle.store_file.proofs.Unchanged.{unchanged}

-- what changes a store is a change, and has a number
pub is_change : (s : Stored) (c : Call) → changes s c ≡ true → IsChange c
is_change s (calls.Head shard) h = absurd cc
is_change s (calls.Scan shard from) h = absurd cc
is_change s (calls.Cas shard expected bytes) h = tt
is_change s (calls.Truncate shard below) h = tt
is_change s (calls.Get key) h = absurd cc
is_change s (calls.Set key bytes) h = tt
is_change s (calls.Delete key) h = tt

pub has_next : (s : Stored) (c : Call) → changes s c ≡ true → HasNext c
has_next s (calls.Head shard) h = tt
has_next s (calls.Scan shard from) h = tt
has_next s (calls.Cas shard expected bytes) h = not-true (is_last_number expected)
    (and_parts (same_number expected (last_number (s.logs shard))) (not (is_last_number expected)) h).1
has_next s (calls.Truncate shard below) h = tt
has_next s (calls.Get key) h = tt
has_next s (calls.Set key bytes) h = tt
has_next s (calls.Delete key) h = tt

module _ (was now told : Stored) (c : Call) (is_told : was ≡ told) (after : now ≡ after_call was c) where
  pub same_store : changes told c ≡ false → now ≡ was
  same_store same = after ∙ unchanged was c (ap (λ (s : Stored). changes s c) is_told ∙ same)

  pub still_keeps : changes told c ≡ false → (end : ℕ) (h : DiskHistory) → Keeps was end h → Keeps now end h
  still_keeps same end h keeps = subst (λ (s : Stored). Keeps s end h) (sym (same_store same)) keeps

  pub keeps_after : (end : ℕ) (h : DiskHistory) → Keeps (after_call was c) end h → Keeps now end h
  keeps_after end h keeps = subst (λ (s : Stored). Keeps s end h) (sym after) keeps
