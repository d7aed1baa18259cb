-- How many store calls a command makes. Entries go newest first, and the newest is the command's last.
use Rattle.std.specs.Prelude.{ℕ, zero, suc, ◌+◌, ◌*◌, ◌≤◌, Bool, false, List, [], ◌∷◌, ◌++◌, length, if◌then◌else◌, ◌==◌, ◌&&◌, Option}
use Rattle.store_core.specs.declared.shards.ShardId.{ShardId}
use Rattle.store_core.specs.declared.calls.Call.{Call}
use Rattle.store_core.specs.declared.calls.Call.TheVariants as calls
use Rattle.store_core.specs.declared.outcomes.Outcome.{Outcome}
use Rattle.store_core.specs.declared.entries.Entry.{Entry}
use Rattle.store_core.specs.Changes.{commits}
use Rattle.store_core.specs.Stores.{Stored}
use Rattle.store_core.specs.Histories.{faults_of}
use Rattle.store_core.specs.Newest.{replay_back}
use Rattle.spine_core.specs.declared.batches.Batch.{Batch}
use Rattle.state_core.specs.States.{ShardState}
use Rattle.history_core.specs.Histories.{same_shard, took_effect}
use Rattle.history_core.specs.Legal.{snapshot_keys, step_keys}

-- whether a call that comes to a store commits a version of the shard
abbrev pub commits_on : ShardId → Stored → Call → Outcome → Bool
commits_on shard before (calls.Cas at_shard expected bytes) outcome =
    took_effect outcome && (same_shard at_shard shard && commits (before.logs shard) expected)
commits_on _ _ _ _ = false

-- how many of the newest `calls` entries of a client failed
abbrev pub failed_calls : ℕ → ℕ → List Entry → ℕ
failed_calls client zero es = 0
failed_calls client (suc n) [] = 0
failed_calls client (suc n) (e ∷ es) =
    if e.client == client then faults_of e.outcome + failed_calls client n es else failed_calls client (suc n) es

-- how many entries of others, since the first of the newest `calls` entries of a client, commit a version of the shard
abbrev pub foreign_commits : Stored → ShardId → ℕ → ℕ → List Entry → ℕ
foreign_commits start shard client zero es = 0
foreign_commits start shard client (suc n) [] = 0
foreign_commits start shard client (suc n) (e ∷ es) =
    if e.client == client then foreign_commits start shard client n es
    else ((if commits_on shard (replay_back start es) e.call e.outcome then 1 else 0) + foreign_commits start shard client (suc n) es)

-- how many of these entries, after those that follow, commit a version of the shard
abbrev pub commits_among : Stored → ShardId → List Entry → List Entry → ℕ
commits_among start shard [] es = 0
commits_among start shard (e ∷ others) es =
    (if commits_on shard (replay_back start (others ++ es)) e.call e.outcome then 1 else 0) + commits_among start shard others es

-- The calls made, with those that are still to be made if no further call fails and no other client commits, are at most a
-- base and two for each commit of others and each failed call.
abbrev pub Within : ℕ → ℕ → ℕ → ℕ → ℕ → Type 0
Within made remaining base foreign failed = made + remaining ≤ base + 2 * (foreign + failed)

-- the same of a command that commits nothing, a snapshot, a listen or a collection: one for each failed call
abbrev pub WithinReads : ℕ → ℕ → ℕ → ℕ → Type 0
WithinReads made remaining base failed = made + remaining ≤ base + failed

-- ---- the bases, by what is asked: of a change of members, an open, a close, a renewal, an advance or an expiry
abbrev pub change_base : ℕ
change_base = 3

-- of an append of so many parts
abbrev pub append_base : ℕ → ℕ
append_base parts = parts + change_base

-- of a snapshot or a listen that reads so many parts
abbrev pub read_base : ℕ → ℕ
read_base parts = parts + 2

-- how many parts a snapshot at a time reads of a state
abbrev pub snapshot_parts : ℕ → ShardState → ℕ
snapshot_parts t s = length (snapshot_keys t s)

-- how many parts a step of a listen from a frontier reads of a state
abbrev pub step_parts : Option ℕ → ShardState → ℕ
step_parts f s = length (step_keys f s)

-- of a merge that gets so many parts and sets so many
abbrev pub merge_base : ℕ → ℕ → ℕ
merge_base got set = got + set + 2

-- how many parts a merge of two batches gets
abbrev pub merge_parts : Batch → Batch → ℕ
merge_parts left right = length (left.parts ++ right.parts)

-- of a collection of so many taken keys
abbrev pub collect_base : ℕ → ℕ
collect_base keys = keys + 2
