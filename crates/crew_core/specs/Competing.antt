-- What competing appends of one feed make of a collection. Entries go newest first. docs/DEFINITIONS.md, "Crews".
use Rattle.std.specs.Prelude.{⊤, ◌≡◌, ◌⊎◌, ℕ, ◌+◌, ◌<◌, Some, List, [], ◌∷◌, ◌++◌, length, reverse}
use Rattle.update_core.specs.declared.updates.Update.{Update}
use Rattle.update_core.specs.declared.appends.FeedAppend.{FeedAppend}
use Rattle.update_core.specs.Collections.{Collection as PlainCollection, empty_collection}
use Rattle.store_core.specs.declared.shards.ShardId.{ShardId}
use Rattle.store_core.specs.declared.entries.Entry.{Entry}
use Rattle.store_core.specs.Stores.{Stored, no_log}
use Rattle.store_core.specs.Histories.{History}
use Rattle.store_core.specs.Ports.{Answered, with_entries}
use Rattle.store_core.specs.Newest.{mine_back, replay_back}
use Rattle.spine_core.specs.declared.batches.Batch.{Batch}
use Rattle.state_core.specs.declared.kinds.Kind.TheVariants.{Reader}
use Rattle.state_core.specs.declared.transitions.Transition.{Transition}
use Rattle.state_core.specs.declared.transitions.Transition.TheVariants.{Merge}
use Rattle.state_core.specs.States.{ShardState}
use Rattle.state_core.specs.Steps.{Stands}
use Rattle.version_codec.specs.Reading.{version_in}
use Rattle.turnstile.specs.Plays.{EachIn}
use Rattle.turnstile.specs.Rule.{times}
use Rattle.shared_store.specs.Trails.{entry_client}
use Rattle.history_core.specs.Discipline.{Lawful, LawfulBack}
use Rattle.history_core.specs.Laws.{LastIs}
use Rattle.history_core.specs.Legal.{AcceptedAt, CollectionIs}
use Rattle.history_core.specs.Placing.{Commits, placed}
use Rattle.history_core.specs.Stands.{StandsFor, accepted}
use Rattle.appends_core.specs.Feeds.{FollowOn, end_from, from_upper, rows_of, weight_of_all}
use Rattle.crew_core.specs.Keeping.{Keeps}
use Rattle.crew_core.specs.Working.{IsOneOf, IsWorkersEntry, Role, as_follower, as_writer}

-- the collection after these entries: that of the last version, or the empty one where there is no version
abbrev pub HasCollection : List Update → Stored → ShardId → List Entry → PlainCollection → Type 0
HasCollection list start shard es c =
    (((replay_back start es).logs shard ≡ no_log) × (accepted shard list start es ≡ []) × (c ≡ empty_collection)) ⊎
    CollectionIs list start shard es c

-- Of two collections the second has, past the first, the rows of the first few of the feed's appends from the first one's upper on.
pub record HasAppended (appends : List FeedAppend) (c d : PlainCollection) : Type 0 where
  pub done : List FeedAppend
  pub rest : List FeedAppend
  pub split : from_upper c.upper appends ≡ done ++ rest
  pub updates : d.updates ≡ c.updates ++ rows_of done
  pub upper : d.upper ≡ end_from c.upper done
  pub weight : d.weight ≡ c.weight + weight_of_all done
  pub since : d.since ≡ c.since

-- a reader of this number, with this since, stands in the shard's last version
abbrev pub HasReader : ShardId → ℕ → ℕ → Stored → List Entry → Type 0
HasReader shard member since start es =
    (n : ℕ) × (s : ShardState) × LastIs (replay_back start es) shard n s ×
    Stands member (λ m. (m.kind ≡ Reader) × (m.since ≡ since)) s.members

-- The role is one of a crew with these appends, of a client that had made these entries when the crew began.
abbrev pub SuitsCrew : List FeedAppend → List Answered → Role → Type 0
SuitsCrew appends own (as_writer mine) = mine ≡ appends
SuitsCrew appends own (as_follower count) = count ≡ length own
SuitsCrew appends own _ = ⊤

-- These entries have come to a history from workers: each is of a client among these, and each of these clients kept what a worker in
-- its role keeps.
pub record FromWorkers (roles : ℕ → Role) (appends : List FeedAppend) (shard : ShardId) (clients : List (ℕ × List Entry)) (h : History)
    (gain : List Entry) : Type 0 where
  pub each_of : EachIn entry_client clients gain
  pub each_suits : (client : ℕ) → 0 < times client clients → SuitsCrew appends (mine_back h.start (reverse h.trail) client) (roles client)
  pub each_keeps : (client : ℕ) → 0 < times client clients → Keeps (IsWorkersEntry (roles client) shard) shard client h gain

-- ---- laws

-- what workers have added to a lawful history leaves it lawful
abbrev pub WorkersLawful : Type 0
WorkersLawful =
    (roles : ℕ → Role) (appends : List FeedAppend) (shard : ShardId) (list : List Update) (clients : List (ℕ × List Entry))
    (h : History) (gain : List Entry) → StandsFor h.start shard list → Lawful h → FromWorkers roles appends shard clients h gain →
    Lawful (with_entries h gain)

-- And where the appends follow on from 0, the collection afterwards has, past the one before, the first few of them from its upper on.
abbrev pub CompetingAppends : Type 0
CompetingAppends =
    (roles : ℕ → Role) (appends : List FeedAppend) (shard : ShardId) (list : List Update) (clients : List (ℕ × List Entry))
    (h : History) (gain : List Entry) → FollowOn (Some 0) appends → StandsFor h.start shard list → Lawful h →
    FromWorkers roles appends shard clients h gain →
    (before : PlainCollection) → HasCollection list h.start shard (reverse h.trail) before →
    (after : PlainCollection) × HasCollection list h.start shard (reverse (h.trail ++ gain)) after × HasAppended appends before after

-- A reader that stands goes on standing, with its since: no worker removes it.
abbrev pub ReadersStay : Type 0
ReadersStay =
    (roles : ℕ → Role) (appends : List FeedAppend) (shard : ShardId) (list : List Update) (clients : List (ℕ × List Entry))
    (h : History) (gain : List Entry) → StandsFor h.start shard list → Lawful h → FromWorkers roles appends shard clients h gain →
    (member since : ℕ) → HasReader shard member since h.start (reverse h.trail) →
    HasReader shard member since h.start (reverse (h.trail ++ gain))

-- An entry that commits one of these appends, with parts that its own client stored, is accepted with the append's rows, however the
-- entry was answered.
abbrev pub StorersCommitAccepted : Type 0
StorersCommitAccepted =
    (appends : List FeedAppend) (shard : ShardId) (list : List Update) (start : Stored) (e : Entry) (es : List Entry) →
    StandsFor start shard list → LawfulBack start (e ∷ es) →
    (k : Commits start shard (placed e es)) (n : ℕ) (to : ShardState) (x : Transition) →
    k.expected ≡ Some n → version_in shard (n + 1) k.bytes ≡ Some (to, x) → (o : IsOneOf appends (mine_back start es e.client) x) →
    AcceptedAt list start shard o.append.rows o.append.lower o.append.upper (placed e es)

-- An entry that commits a merge leaves the accepted updates, and the collection, as they are.
abbrev pub MergesLeave : Type 0
MergesLeave =
    (shard : ShardId) (list : List Update) (start : Stored) (e : Entry) (es : List Entry) → StandsFor start shard list →
    LawfulBack start (e ∷ es) → (k : Commits start shard (placed e es)) (n : ℕ) (to : ShardState) (member token : ℕ)
    (left right merged : Batch) → k.expected ≡ Some n →
    version_in shard (n + 1) k.bytes ≡ Some (to, Merge member token left right merged) →
    (accepted shard list start (e ∷ es) ≡ accepted shard list start es) ×
    ((c : PlainCollection) → HasCollection list start shard es c → HasCollection list start shard (e ∷ es) c)
