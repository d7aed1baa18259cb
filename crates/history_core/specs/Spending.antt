-- How often a member's token is spent in a history.
use Rattle.std.specs.Prelude.{ℕ, ◌+◌, Bool, false, Option, Some, List, [], ◌∷◌, reverse, ◌==◌, if◌then◌else◌, ◌&&◌}
use Rattle.store_core.specs.declared.shards.ShardId.{ShardId}
use Rattle.store_core.specs.declared.calls.Call.{Call}
use Rattle.store_core.specs.declared.calls.Call.TheVariants as calls
use Rattle.store_core.specs.declared.entries.Entry.{Entry}
use Rattle.store_core.specs.Changes.{commits}
use Rattle.store_core.specs.Stores.{Stored}
use Rattle.store_core.specs.Histories.{History}
use Rattle.store_core.specs.Newest.{replay_back}
use Rattle.state_core.specs.declared.transitions.Transition.{Transition}
use Rattle.state_core.specs.declared.transitions.Transition.TheVariants.{Append, Merge}
use Rattle.state_core.specs.States.{ShardState}
use Rattle.version_codec.specs.Reading.{version_in}
use Rattle.history_core.specs.Histories.{took_effect, same_shard}

-- whether a version's transition spends this token of this member
abbrev pub is_spending : Option (ShardState × Transition) → ℕ → ℕ → Bool
is_spending (Some (s, Append m t expected new parts rows weight)) member token = (m == member) && (t == token)
is_spending (Some (s, Merge m t left right merged)) member token = (m == member) && (t == token)
is_spending _ member token = false

-- whether an entry commits such a version
abbrev pub is_commit_under : Stored → ShardId → ℕ → ℕ → Entry → Call → Bool
is_commit_under store shard member token e (calls.Cas at_shard (Some n) bytes) =
    (took_effect e.outcome && (same_shard at_shard shard && commits (store.logs shard) (Some n))) &&
    is_spending (version_in shard (n + 1) bytes) member token
is_commit_under store shard member token e _ = false

-- how many of the entries do, the newest of which comes first
abbrev pub commits_under : Stored → ShardId → ℕ → ℕ → List Entry → ℕ
commits_under start shard member token [] = 0
commits_under start shard member token (e ∷ es) =
    (if is_commit_under (replay_back start es) shard member token e e.call then 1 else 0) + commits_under start shard member token es

-- how many entries of a history do
abbrev pub commits_under_of : History → ShardId → ℕ → ℕ → ℕ
commits_under_of h shard member token = commits_under h.start shard member token (reverse h.trail)

-- how many of one client's entries do, the newest of which comes first
abbrev pub own_commits : Stored → ShardId → ℕ → ℕ → ℕ → List Entry → ℕ
own_commits start shard client member token [] = 0
own_commits start shard client member token (e ∷ es) =
    (if (e.client == client) && is_commit_under (replay_back start es) shard member token e e.call then 1 else 0) +
    own_commits start shard client member token es

-- how many of one client's entries in a history do
abbrev pub own_commits_of : History → ShardId → ℕ → ℕ → ℕ → ℕ
own_commits_of h shard client member token = own_commits h.start shard client member token (reverse h.trail)
