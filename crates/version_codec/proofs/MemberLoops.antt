-- Members, keys and batches are read one after the other.
use Rattle.std.proofs.Common.{◌≡◌, ◌==◌, ℕ, ◌+◌, ◌-◌, ◌<◌, inl, inr, sym, ◌∙◌, ◌∷◌, [], ◌++◌, List, eqb, refl, arith}
use Rattle.std.proofs.lemmas.Bool.{eq-eqb, eqb-true, eqb-false, ne_eqb}
use Rattle.store_core.specs.declared.shards.ShardId.{ShardId}
use Rattle.store_core.specs.declared.part_keys.PartKey.{PartKey}
use Rattle.state_core.specs.States.{ShardState, keys_of}
use Rattle.version_codec.specs.Reading.{member_at, members_at, with_member, key_at, keys_at, batch_at, batches_at, with_batch, step_key_at, step_keys_at}
use Rattle.state_core.proofs.ListLemmas.{bool_cases}
use Rattle.version_codec.proofs.Loops.{Reads}

pub members_read : (total : ℕ) → Reads (members_at total) (λ s n bytes. member_at total s bytes) with_member
unfolding members_at
members_read total = record { none = λ s bytes. refl; more = λ s n bytes. refl }

abbrev pub with_key : List PartKey → PartKey → List PartKey
with_key ks k = ks ++ k ∷ []

pub keys_read : (total : ℕ) (s : ShardState) → Reads (keys_at total s) (λ ks n bytes. key_at total s (keys_of s.batches ++ ks) bytes) with_key
unfolding keys_at
keys_read total s = record { none = λ ks bytes. refl; more = λ ks n bytes. refl }

pub batches_read : (total : ℕ) → Reads (batches_at total) (λ s n bytes. batch_at total s (n == 0) bytes) with_batch
unfolding batches_at
batches_read total = record { none = λ s bytes. refl; more = λ s n bytes. refl }

pub step_keys_read : (total : ℕ) (shard : ShardId) → Reads (step_keys_at total shard) (λ ks n bytes. step_key_at total shard bytes) with_key
unfolding step_keys_at
step_keys_read total shard = record { none = λ ks bytes. refl; more = λ ks n bytes. refl }

-- whether none follows, by the count of those before
pub last_test : (i count : ℕ) → i < count → eqb (i + 1) count ≡ eqb (count - (i + 1)) 0
last_test i count lt =
    elim (bool_cases (eqb (i + 1) count)) [
      | inl e ↦ (let is : i + 1 ≡ count = eqb-true _ _ e in e ∙ sym (eq-eqb (count - (i + 1)) 0 (omega arith)))
      | inr e ↦ (let isnt : i + 1 ≡ count → ⊥ = eqb-false _ _ e in e ∙ sym (ne_eqb (count - (i + 1)) 0 (λ q. isnt (omega arith))))
    ]
