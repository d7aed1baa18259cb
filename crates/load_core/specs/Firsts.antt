-- A shard's first version, where a call makes it.
use Rattle.std.specs.Prelude.{⊤, ◌≡◌, None}
use Rattle.store_core.specs.declared.shards.ShardId.{ShardId}
use Rattle.store_core.specs.declared.calls.Call.{Call}
use Rattle.store_core.specs.declared.calls.Call.TheVariants as calls
use Rattle.state_core.specs.declared.transitions.Transition.TheVariants.{Init}
use Rattle.state_core.specs.Steps.{init}
use Rattle.version_codec.specs.Versions.{VersionOf}

-- A Cas that expects no version is of this shard and has the bytes of its first version. Only a command that opens makes one.
abbrev pub MakesFirst : Type 0 → ShardId → Call → Type 0
MakesFirst Opens shard (calls.Cas at_shard None bytes) = Opens × (at_shard ≡ shard) × VersionOf (init shard) Init bytes
MakesFirst Opens shard _ = ⊤
