-- What a decoder of versions has found.
use Rattle.std.proofs.Common.{◌≡◌, ℕ, List, Result, Ok, Err, IfOk, sym, ◌∙◌}
use Rattle.store_core.specs.declared.shards.ShardId.{ShardId}
use Rattle.state_core.specs.declared.transitions.Transition.{Transition}
use Rattle.version_codec.specs.declared.version_faults.VersionFault.{VersionFault}
use Rattle.state_core.specs.States.{ShardState}
use Rattle.version_codec.specs.Reading.{Gives, read_version}
use Rattle.version_codec.specs.Versions.{VersionOf}
use Rattle.byte_core.specs.ByteLists.{IsBytes}
use Rattle.version_codec.proofs.Facts.{read_took, read_again}

pub is_found : (shard : ShardId) (number : ℕ) (bytes : List ℕ) (r : Result (ShardState × Transition) VersionFault) → IsBytes bytes → Gives (λ y. (y.0, y.1)) r (read_version shard number bytes)
    → IfOk r (λ x. VersionOf x.0 x.1 bytes × (x.0.shard ≡ shard) × (x.0.number ≡ number))
is_found shard number bytes (Ok v) is given = let r = read_took shard number bytes (v.0, v.1) given in (r.spells is, r.is_of, r.is_at)
is_found shard number bytes (Err e) is given = tt

pub is_read : (shard : ShardId) (number : ℕ) (bytes : List ℕ) (s : ShardState) (x : Transition) → s.shard ≡ shard → s.number ≡ number → VersionOf s x bytes → read_version shard number bytes ≡ Ok (s, x)
is_read shard number bytes s x p q v = (λ i. read_version (sym p i) (sym q i) bytes) ∙ read_again s x bytes v
