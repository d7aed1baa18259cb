-- What replies show, and the versions that ever were. A client's own entries go newest first.
use Rattle.std.specs.Prelude.{◌≡◌, ℕ, ◌+◌, Bool, true, false, Option, Some, None, List, [], ◌∷◌, ◌==◌, if◌then◌else◌, ◌&&◌}
use Rattle.std.specs.Ordering.{is_eq}
use Rattle.state_core.specs.Lists.{Among}
use Rattle.store_core.specs.declared.shards.ShardId.{ShardId}
use Rattle.store_core.specs.declared.calls.Call.{Call}
use Rattle.store_core.specs.declared.calls.Call.TheVariants as calls
use Rattle.store_core.specs.declared.replies.Reply.{Reply}
use Rattle.store_core.specs.declared.replies.Reply.TheVariants as replies
use Rattle.store_core.specs.declared.outcomes.Outcome.{Outcome}
use Rattle.store_core.specs.declared.outcomes.Outcome.TheVariants.{Took, FailedTook, FailedLost}
use Rattle.store_core.specs.declared.entries.Entry.{Entry}
use Rattle.store_core.specs.Changes.{commits}
use Rattle.store_core.specs.Stores.{Log, Stored, shard_cmp, committed}
use Rattle.store_core.specs.Ports.{Answered}
use Rattle.store_core.specs.Newest.{replay_back}

-- whether two shards are one
abbrev pub same_shard : ShardId → ShardId → Bool
same_shard a b = is_eq (shard_cmp a b)

-- the bytes of version n, of versions numbered from first on
abbrev pub bytes_from : ℕ → List (List ℕ) → ℕ → Option (List ℕ)
bytes_from first [] n = None
bytes_from first (v ∷ vs) n = if n == first then Some v else bytes_from (first + 1) vs n

-- the bytes of version n, where it is live
abbrev pub version_at : Log → ℕ → Option (List ℕ)
version_at log n = bytes_from log.first log.versions n

-- whether a call with this outcome took effect
abbrev pub took_effect : Outcome → Bool
took_effect Took = true
took_effect FailedTook = true
took_effect FailedLost = false

-- a reply answers version n of the shard, with these bytes
abbrev pub Told : ShardId → ℕ → List ℕ → Call → Reply → Type 0
Told shard n b (calls.Head at_shard) (replies.Version (Some v)) = (at_shard ≡ shard) × (v.number ≡ n) × (v.bytes ≡ b)
Told shard n b (calls.Scan at_shard from) (replies.Versions vs) =
    (at_shard ≡ shard) × Among (λ v. (v.number ≡ n) × (v.bytes ≡ b)) vs
Told shard n b (calls.Cas at_shard expected bytes) (replies.Committed m) = (at_shard ≡ shard) × (m ≡ n) × (bytes ≡ b)
Told _ _ _ _ _ = ⊥

-- a client's entries show version n of the shard: a Head, a Scan or a Cas of theirs was answered so
abbrev pub Shows : List Answered → ShardId → ℕ → List ℕ → Type 0
Shows own shard n b = Among (λ o. Told shard n b o.entry.call o.reply) own

-- the versions that ever were, after a call over these live ones: one that commits on the shard adds its bytes
abbrev pub grown : ShardId → Log → Call → Outcome → Log → Log
grown shard live (calls.Cas at_shard expected bytes) outcome log =
    if took_effect outcome && (same_shard at_shard shard && commits live expected) then committed log bytes else log
grown _ _ _ _ log = log

-- the versions of a shard that were live at some place of a history
abbrev pub ever : Stored → ShardId → List Entry → Log
ever start shard [] = start.logs shard
ever start shard (e ∷ es) = grown shard ((replay_back start es).logs shard) e.call e.outcome (ever start shard es)
