-- What a client's replies tell of the store: the laws on which answers rest. Own entries go newest first.
use Rattle.std.specs.Prelude.{◌≡◌, ◌≢◌, ℕ, ◌+◌, ◌≤◌, ◌<◌, true, List, reverse, Some}
use Rattle.std.specs.List.{AllByRecursion}
use Rattle.update_core.specs.declared.updates.Update.{Update}
use Rattle.update_core.specs.Frontiers.{covers}
use Rattle.update_core.specs.Updates.{sum_of, slice_of}
use Rattle.store_core.specs.declared.shards.ShardId.{ShardId}
use Rattle.store_core.specs.declared.part_keys.PartKey.{PartKey}
use Rattle.store_core.specs.declared.calls.Call.TheVariants as calls
use Rattle.store_core.specs.declared.outcomes.Outcome.TheVariants.{Took}
use Rattle.store_core.specs.declared.entries.Entry.{Entry}
use Rattle.store_core.specs.Histories.{History, store_after, with_entry}
use Rattle.store_core.specs.Ports.{Answered, mine, mine_from, with_entries}
use Rattle.state_core.specs.Lists.{Among}
use Rattle.state_core.specs.declared.members.Member.{Member}
use Rattle.state_core.specs.States.{ShardState, Names, keys_of}
use Rattle.history_core.specs.Histories.{Shows}
use Rattle.history_core.specs.Discipline.{ShowsState, Owns, GotAs, Hold, Lawful}
use Rattle.history_core.specs.Stands.{StandsFor, IsLast, StateAt, PartRows, accepted_of}
use Rattle.history_core.specs.Questions.{begun_by, ending_past}
use Rattle.history_core.specs.Spending.{commits_under_of, own_commits_of}
use Rattle.history_core.specs.Laws.{LastIs}

-- a client's own entries in a history
abbrev pub own_of : History → ℕ → List Answered
own_of h c = reverse (mine h c)

-- a client's own entries after a history
abbrev pub own_past : History → List Entry → ℕ → List Answered
own_past h later c = reverse (mine_from (store_after h) later c)

-- a Scan of the shard that was answered, and began at most one past a number
abbrev pub IsScanNear : ShardId → ℕ → Entry → Type 0
IsScanNear shard n e = (from : ℕ) × (e.call ≡ calls.Scan shard from) × (e.outcome ≡ Took) × (from ≤ n + 1)

-- n is the greatest number of a version of the shard that entries show
pub record GreatestShown (own : List Answered) (shard : ShardId) (n : ℕ) : Type 0 where
  pub bytes : List ℕ
  pub shown : Shows own shard n bytes
  pub greatest : (m : ℕ) (b : List ℕ) → Shows own shard m b → m ≤ n

-- Where a Scan began at most one past the greatest number that its client's entries show up to and with it, that number is
-- the last version's, and a state that they show at it is the last version's state.
abbrev pub NewestShown : Type 0
NewestShown =
    (shard : ShardId) (list : List Update) (h : History) (e : Entry) (n : ℕ) → StandsFor h.start shard list →
    Lawful (with_entry h e) → IsScanNear shard n e →
    GreatestShown (own_of (with_entry h e) e.client) shard n → IsLast ((store_after (with_entry h e)).logs shard) n ×
    ((s : ShardState) → ShowsState (own_of (with_entry h e) e.client) shard n s →
    StateAt (store_after (with_entry h e)) shard n s)

-- What a client later gets from keys that the last state names is what is there now.
abbrev pub LaterGets : Type 0
LaterGets =
    (shard : ShardId) (list : List Update) (h : History) (later : List Entry) → StandsFor h.start shard list →
    Lawful (with_entries h later) →
    (number : ℕ) (last : ShardState) → LastIs (store_after h) shard number last →
    (c : ℕ) (keys : List PartKey) (rows : List Update) → AllByRecursion (Names last) keys →
    Hold (GotAs (own_past h later c)) keys rows → PartRows (store_after h) keys rows

-- From since on the rows that a client later gets from the parts of the batches that begin at a time or before it have the
-- content of the accepted list.
abbrev pub ContentGot : Type 0
ContentGot =
    (shard : ShardId) (list : List Update) (h : History) (later : List Entry) → StandsFor h.start shard list →
    Lawful (with_entries h later) →
    (number : ℕ) (last : ShardState) → LastIs (store_after h) shard number last → (c t : ℕ) (rows : List Update) →
    last.since ≤ t → covers last.upper t ≡ true →
    Hold (GotAs (own_past h later c)) (keys_of (begun_by t last.batches)) rows →
    sum_of rows t ≡ sum_of (accepted_of shard list h) t

-- Past since the rows that a client later gets from the parts of the batches that end past a time have the slice of the
-- accepted list from that time on.
abbrev pub SliceGot : Type 0
SliceGot =
    (shard : ShardId) (list : List Update) (h : History) (later : List Entry) → StandsFor h.start shard list →
    Lawful (with_entries h later) →
    (number : ℕ) (last : ShardState) → LastIs (store_after h) shard number last → (c f : ℕ) (rows : List Update) →
    last.since < f →
    Hold (GotAs (own_past h later c)) (keys_of (ending_past (Some f) last.batches)) rows →
    slice_of rows (Some f) last.upper ≡ slice_of (accepted_of shard list h) (Some f) last.upper

-- Where a client owns a member that stands in the last state with a token that isn't 0, exactly one entry committed under
-- that token, and it is the client's. No entry did under a later token.
abbrev pub TokenSpentOnce : Type 0
TokenSpentOnce =
    (shard : ShardId) (list : List Update) (h : History) → StandsFor h.start shard list → Lawful h →
    (number : ℕ) (last : ShardState) → LastIs (store_after h) shard number last → (m : Member) →
    Among (λ u. u ≡ m) last.members → (c : ℕ) → Owns (own_of h c) shard m.number →
    (m.token ≢ 0 → (commits_under_of h shard m.number m.token ≡ 1) × (own_commits_of h shard c m.number m.token ≡ 1)) ×
    ((t : ℕ) → m.token < t → commits_under_of h shard m.number t ≡ 0)
