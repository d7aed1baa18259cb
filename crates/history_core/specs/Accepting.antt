-- From where a trail tells by itself what is accepted.
use Rattle.std.specs.Prelude.{◌≡◌, ⊤, Bool, true, false, List, [], ◌∷◌, ◌&&◌}
use Rattle.std.specs.List.{AllByRecursion}
use Rattle.update_core.specs.declared.updates.Update.{Update}
use Rattle.store_core.specs.declared.shards.ShardId.{ShardId}
use Rattle.store_core.specs.declared.calls.Call.{Call}
use Rattle.store_core.specs.declared.calls.Call.TheVariants as calls
use Rattle.store_core.specs.declared.entries.Entry.{Entry}
use Rattle.store_core.specs.Changes.{commits}
use Rattle.store_core.specs.Stores.{Stored}
use Rattle.store_core.specs.Histories.{next}
use Rattle.history_core.specs.Histories.{took_effect}
use Rattle.history_core.specs.Discipline.{Lawful}
use Rattle.history_core.specs.Stands.{StandsFor}

-- whether the call is a Cas
abbrev pub is_cas : Call → Bool
is_cas (calls.Cas shard expected bytes) = true
is_cas _ = false

-- whether the entry is a Cas that took effect
abbrev pub takes_cas : Entry → Bool
takes_cas e = took_effect e.outcome && is_cas e.call

-- if the call is a Cas, it names this shard
abbrev pub NamesShard : ShardId → Call → Type 0
NamesShard shard (calls.Cas at_shard expected bytes) = at_shard ≡ shard
NamesShard shard _ = ⊤

-- if the call is a Cas, it commits on this shard of the store
abbrev pub CommitsAt : Stored → ShardId → Call → Type 0
CommitsAt s shard (calls.Cas at_shard expected bytes) = commits (s.logs shard) expected ≡ true
CommitsAt s shard _ = ⊤

-- the first Cas that takes effect commits
abbrev pub FirstCommits : Stored → ShardId → List Entry → Type 0
FirstCommits s shard [] = ⊤
FirstCommits s shard (e ∷ es) =
    (takes_cas e ≡ true → CommitsAt s shard e.call) × (takes_cas e ≡ false → FirstCommits (next s e) shard es)

-- The store stands for the list, the trail is lawful from it, its Cas calls name the shard, and the first to take effect commits.
pub record IsOriginOf (origin : Stored) (shard : ShardId) (list : List Update) (trail : List Entry) : Type 0 where
  pub stands : StandsFor origin shard list
  pub lawful : Lawful (record { start = origin; trail = trail })
  pub one_shard : AllByRecursion (λ e. NamesShard shard e.call) trail
  pub first : FirstCommits origin shard trail
