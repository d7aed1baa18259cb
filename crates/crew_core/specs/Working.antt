-- What a worker of a crew calls. A client's own entries go newest first. docs/DEFINITIONS.md, "Crews".
use Rattle.std.specs.Prelude.{⊤, ◌≡◌, ◌⊎◌, ℕ, ◌+◌, ◌-◌, ◌≤◌, Bool, true, false, Some, None, List, length, take}
use Rattle.update_core.specs.declared.appends.FeedAppend.{FeedAppend}
use Rattle.update_core.specs.Updates.{cons, weight_of}
use Rattle.spine_core.specs.declared.batches.Batch.{Batch}
use Rattle.store_core.specs.declared.shards.ShardId.{ShardId}
use Rattle.store_core.specs.declared.part_keys.PartKey.{PartKey}
use Rattle.store_core.specs.declared.calls.Call.{Call}
use Rattle.store_core.specs.declared.calls.Call.TheVariants as calls
use Rattle.store_core.specs.declared.entries.Entry.{Entry}
use Rattle.store_core.specs.Stores.{Stored}
use Rattle.store_core.specs.Ports.{Answered}
use Rattle.store_core.specs.Newest.{mine_back}
use Rattle.state_core.specs.declared.kinds.Kind.{Kind}
use Rattle.state_core.specs.declared.kinds.Kind.TheVariants.{Writer, Reader, Keeper}
use Rattle.state_core.specs.declared.transitions.Transition.{Transition}
use Rattle.state_core.specs.declared.transitions.Transition.TheVariants.{Join, Leave, Renew, Append, Merge}
use Rattle.state_core.specs.Lists.{Among}
use Rattle.state_core.specs.States.{ShardState}
use Rattle.version_codec.specs.Reading.{version_in}
use Rattle.history_core.specs.Discipline.{Allows, Hold, StoredAs}
use Rattle.history_core.specs.Legal.{ReaderJoined}
use Rattle.history_core.specs.Members.{JoinedAs}
use Rattle.history_core.specs.Placing.{places}
use Rattle.crew_core.specs.declared.jobs.Job.{Job}
use Rattle.crew_core.specs.declared.jobs.Job.TheVariants as jobs

-- The transition is one of these appends: with its range, with parts that the client stored and that hold its rows,
-- consolidated, and with their weight as handed in.
pub record IsOneOf (appends : List FeedAppend) (own : List Answered) (x : Transition) : Type 0 where
  pub append : FeedAppend
  pub among : Among (λ a. a ≡ append) appends
  pub member : ℕ
  pub token : ℕ
  pub parts : List PartKey
  pub count : ℕ
  pub step_is : x ≡ Append member token append.lower append.upper parts count (weight_of append.rows)
  pub holds : Hold (StoredAs own) parts (cons append.rows)

-- the transition is the leave of a member that the client joined as this kind
abbrev pub IsOwnLeave : Kind → ShardId → List Answered → Transition → Type 0
IsOwnLeave kind shard own x = (member : ℕ) × (x ≡ Leave member) × JoinedAs kind own shard member

-- the transition is the join of a keeper
abbrev pub IsKeepersJoin : Transition → Type 0
IsKeepersJoin x = (now : ℕ) × (lease : ℕ) × (x ≡ Join Keeper now lease)

-- the transition is a merge under a token of a member that the client joined as a keeper
pub record IsOwnMerge (shard : ShardId) (own : List Answered) (x : Transition) : Type 0 where
  pub member : ℕ
  pub token : ℕ
  pub left : Batch
  pub right : Batch
  pub merged : Batch
  pub step_is : x ≡ Merge member token left right merged
  pub joined : JoinedAs Keeper own shard member

-- the transition is a renewal of a member that the client joined as a reader
abbrev pub IsOwnRenewal : ShardId → List Answered → Transition → Type 0
IsOwnRenewal shard own x = (member : ℕ) × (now : ℕ) × (x ≡ Renew member now) × JoinedAs Reader own shard member

-- the transition is the join of a reader
abbrev pub IsReadersJoin : Transition → Type 0
IsReadersJoin x = (now : ℕ) × (lease : ℕ) × (x ≡ Join Reader now lease)

-- what a client has made past its first entries, so many
abbrev pub past_first : ℕ → List Answered → List Answered
past_first count own = take (length own - count) own

-- whether a worker works as the client that the pin reads as
abbrev pub is_pin : Job → Bool
is_pin jobs.Pin = true
is_pin _ = false

-- what a worker is for: a writer with its appends; a follower with how many entries its client had made when the crew began
pub data Role : Type 0 where
  as_writer : List FeedAppend → Role
  as_compactor : Role
  as_collector : Role
  as_pin : Role
  as_follower : ℕ → Role

abbrev pub role_of : Job → List FeedAppend → Role
role_of jobs.Write appends = as_writer appends
role_of jobs.Merge appends = as_compactor
role_of jobs.Collect appends = as_collector
role_of jobs.Pin appends = as_pin

-- What a worker may commit. A writer of a crew: the join of a writer, the leave of one that it joined, and its appends. A compactor: the
-- join of a keeper, the leave of one that it joined, and merges. A collector: nothing. The one that works as the client that the pin reads
-- as: renewals of a reader that this client joined. A follower: the join of a reader, and the leave of one that it joined since the crew
-- began.
abbrev pub IsWorkersStep : Role → ShardId → List Answered → Transition → Type 0
IsWorkersStep (as_writer appends) shard own x = (x ≡ Join Writer 0 0) ⊎ (IsOwnLeave Writer shard own x ⊎ IsOneOf appends own x)
IsWorkersStep as_compactor shard own x = IsKeepersJoin x ⊎ (IsOwnLeave Keeper shard own x ⊎ IsOwnMerge shard own x)
IsWorkersStep as_collector shard own x = ⊥
IsWorkersStep as_pin shard own x = IsOwnRenewal shard own x
IsWorkersStep (as_follower count) shard own x = IsReadersJoin x ⊎ IsOwnLeave Reader shard (past_first count own) x

-- whether a worker may make the first version: a collector may not
abbrev pub MayBegin : Role → Type 0
MayBegin as_collector = ⊥
MayBegin as_pin = ⊥
MayBegin _ = ⊤

-- whether it may store parts: nor may a follower
abbrev pub MayStore : Role → Type 0
MayStore as_collector = ⊥
MayStore as_pin = ⊥
MayStore (as_follower count) = ⊥
MayStore _ = ⊤

-- A Cas past a version is of the crew's shard, and its bytes carry such a transition; the first version and parts come from those that may
-- add them.
abbrev pub CarriesWorkers : Role → ShardId → List Answered → Call → Type 0
CarriesWorkers role shard own (calls.Cas at_shard (Some n) bytes) =
    (at_shard ≡ shard) ×
    ((to : ShardState) × (x : Transition) × (version_in shard (n + 1) bytes ≡ Some (to, x)) × IsWorkersStep role shard own x)
CarriesWorkers role shard own (calls.Cas at_shard None bytes) = MayBegin role
CarriesWorkers role shard own (calls.Set key bytes) = MayStore role
CarriesWorkers role shard own _ = ⊤

-- an entry of a worker, at its place: a call that its client may make, and a Cas carries what a worker may commit
pub record IsWorkersEntry (role : Role) (shard : ShardId) (start : Stored) (es : List Entry) (e : Entry) : Type 0 where
  pub allowed : Allows (mine_back start es e.client) e.call
  pub carries : CarriesWorkers role shard (mine_back start es e.client) e.call

-- ---- a law

-- The member that an open of a reader is answered is one that the client has joined past its first entries, where the open's calls are
-- past them.
abbrev pub JoinsSince : Type 0
JoinsSince =
    (start : Stored) (shard : ShardId) (client count calls : ℕ) (es : List Entry) (member version now lease since : ℕ) →
    ReaderJoined start shard now lease member version since (places client calls es) →
    count + calls ≤ length (mine_back start es client) → JoinedAs Reader (past_first count (mine_back start es client)) shard member
