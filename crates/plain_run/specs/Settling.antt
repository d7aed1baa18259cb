-- The line `compact`: what becomes of the batches and of the keeper that merges them. Entries go newest first.
use Rattle.std.specs.Prelude.{⊤, ◌≡◌, ℕ, ◌<◌, ◌≤◌, ◌^◌, Bool, true, false, List, [], ◌∷◌}
use Rattle.feed_text.specs.declared.feed_lines.FeedLine.{FeedLine}
use Rattle.feed_text.specs.declared.feed_lines.FeedLine.TheVariants.{Compact}
use Rattle.store_core.specs.declared.shards.ShardId.{ShardId}
use Rattle.store_core.specs.declared.entries.Entry.{Entry}
use Rattle.store_core.specs.Stores.{Stored}
use Rattle.store_core.specs.Newest.{replay_back}
use Rattle.spine_core.specs.Settled.{IsSettled, weights_of}
use Rattle.state_core.specs.declared.kinds.Kind.TheVariants.{Keeper}
use Rattle.state_core.specs.States.{ShardState}
use Rattle.state_core.specs.Steps.{Stands}
use Rattle.history_core.specs.Laws.{LastIs}

-- no pair of the batches of the last version's state is due
abbrev pub IsSettledIn : Stored → ShardId → Type 0
IsSettledIn store shard = (n : ℕ) × (s : ShardState) × LastIs store shard n s × IsSettled (weights_of s.batches)

-- batches that are settled stay so
abbrev pub StaysSettled : ShardId → Stored → Stored → Type 0
StaysSettled shard old new = IsSettledIn old shard → IsSettledIn new shard

-- and in the end they are, whether they were or not
abbrev pub GetsSettled : ShardId → Stored → Stored → Type 0
GetsSettled shard old new = IsSettledIn new shard

-- whether a command is `compact`
abbrev pub is_compact : FeedLine → Bool
is_compact Compact = true
is_compact _ = false

-- whether the last command is `compact`
abbrev pub ends_compact : List FeedLine → Bool
ends_compact [] = false
ends_compact (line ∷ []) = is_compact line
ends_compact (line ∷ next ∷ lines) = ends_compact (next ∷ lines)

-- after the line `compact` the batches are settled
abbrev pub SettledBy : FeedLine → ShardId → Stored → Type 0
SettledBy Compact shard store = IsSettledIn store shard
SettledBy _ shard store = ⊤

-- a keeper of this number stands in the last version's state, whose number isn't below this one
pub record KeeperAt (shard : ShardId) (start : Stored) (es : List Entry) (member least : ℕ) : Type 0 where
  pub number : ℕ
  pub state : ShardState
  pub last : LastIs (replay_back start es) shard number state
  pub stands : Stands member (λ m. m.kind ≡ Keeper) state.members
  pub above : least ≤ number
  pub few : number < 2 ^ 64
