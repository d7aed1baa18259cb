-- The clients of a schedule, and what is known of them between two lines. Entries go newest first.
use Rattle.std.specs.Prelude.{⊤, ◌≡◌, ℕ, suc, zero, ◌+◌, ◌≤◌, Option, List, [], ◌∷◌}
use Rattle.store_core.specs.declared.shards.ShardId.{ShardId}
use Rattle.store_core.specs.Histories.{History}
use Rattle.machine_core.specs.Machines.{Words, shard_of}
use Rattle.machine_core.specs.Polling.{FollowsWhere}
use Rattle.write_client.specs.Machining as write
use Rattle.read_client.specs.Machining as read
use Rattle.merge_client.specs.Machining as merge
use Rattle.maint_client.specs.Collecting as collect
use Rattle.maint_client.specs.Expiring as expire
use Rattle.step_run.specs.declared.clients.Client.{Client}
use Rattle.step_run.specs.declared.clients.Client.TheVariants as clients
use Rattle.step_run.specs.declared.scenes.Scene.{Scene}
use Rattle.step_run.specs.Stepping.{WithinWhere}

-- A machine of this shard that follows from its client's own entries. Its open command has made no more calls than polls were asked for,
-- and keeps to its bound.
pub record Fits {M A : Type 0} (W : Words M A) (shard : ShardId) (client polls : ℕ) (front : Option History) (m : M) : Type 0 where
  pub shard_is : shard_of W m ≡ shard
  pub sound : W.IsSound m
  pub follows : FollowsWhere W client front m
  pub few : W.IsOpen m → W.calls_of m ≤ polls
  pub cost : W.IsOpen m → WithinWhere W client front m

-- a client's machine holds what it holds besides any history
abbrev pub IsSound : Client → Type 0
IsSound (clients.Writer w) = write.machine.IsSound w
IsSound (clients.Reader r) = read.machine.IsSound r
IsSound (clients.Compactor c) = merge.machine.IsSound c
IsSound (clients.Collector c) = collect.collecting.IsSound c
IsSound (clients.Expirer x) = expire.machine.IsSound x.tryer

-- a client's machine fits
abbrev pub ClientFits : ShardId → ℕ → ℕ → Option History → Client → Type 0
ClientFits shard client polls front (clients.Writer w) = Fits write.machine shard client polls front w
ClientFits shard client polls front (clients.Reader r) = Fits read.machine shard client polls front r
ClientFits shard client polls front (clients.Compactor c) = Fits merge.machine shard client polls front c
ClientFits shard client polls front (clients.Collector c) = Fits collect.collecting shard client polls front c
ClientFits shard client polls front (clients.Expirer x) = Fits expire.machine shard client polls front x.tryer

-- each of these does, numbered from n on
abbrev pub AllFit : ShardId → ℕ → Option History → ℕ → List Client → Type 0
AllFit shard polls front n [] = ⊤
AllFit shard polls front n (c ∷ cs) = ClientFits shard n polls front c × AllFit shard polls front (n + 1) cs

-- the clients of a scene, numbered from 0
abbrev pub Ready : ShardId → Option History → Scene → Type 0
Ready shard front s = AllFit shard s.polls front 0 s.clients.items

-- the client with this number becomes another, which is so; where there is none nothing is so
abbrev pub Becomes : (Client → Client → Type 0) → Type 0 → ℕ → List Client → List Client → Type 0
Becomes how none n [] ds = none × (ds ≡ [])
Becomes how none zero (c ∷ cs) ds = (d : Client) × how c d × (ds ≡ d ∷ cs)
Becomes how none (suc n) (c ∷ cs) ds = (es : List Client) × Becomes how none n cs es × (ds ≡ c ∷ es)
