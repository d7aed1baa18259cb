-- What a client may call, by its own entries and their replies alone. Own entries go newest first.
use Rattle.std.specs.Prelude.{◌≡◌, ℕ, ◌+◌, ◌<◌, ◌≤◌, ⊤, List, [], ◌∷◌, ◌++◌, length, reverse, Option, Some, None}
use Rattle.std.specs.List.{AllByRecursion}
use Rattle.update_core.specs.declared.updates.Update.{Update}
use Rattle.update_core.specs.Updates.{IsCons, moved, between, weight_of}
use Rattle.store_core.specs.declared.shards.ShardId.{ShardId}
use Rattle.store_core.specs.declared.part_keys.PartKey.{PartKey}
use Rattle.store_core.specs.declared.versions.Version.{Version}
use Rattle.store_core.specs.declared.calls.Call.{Call}
use Rattle.store_core.specs.declared.calls.Call.TheVariants as calls
use Rattle.store_core.specs.declared.replies.Reply.{Reply}
use Rattle.store_core.specs.declared.replies.Reply.TheVariants as replies
use Rattle.store_core.specs.declared.entries.Entry.{Entry}
use Rattle.store_core.specs.Stores.{Stored}
use Rattle.store_core.specs.Histories.{History}
use Rattle.store_core.specs.Ports.{Answered, mine}
use Rattle.store_core.specs.Newest.{mine_back}
use Rattle.spine_core.specs.declared.batches.Batch.{Batch}
use Rattle.part_codec.specs.Parts.{Rising}
use Rattle.state_core.specs.declared.transitions.Transition.{Transition}
use Rattle.state_core.specs.declared.transitions.Transition.TheVariants.{Init, Join, Append, Merge}
use Rattle.state_core.specs.Lists.{Among}
use Rattle.state_core.specs.States.{ShardState, floor}
use Rattle.state_core.specs.Steps.{Applies, Takes, Spends, acts_for, init}
use Rattle.version_codec.specs.Reading.{version_in}
use Rattle.history_core.specs.Readings.{rows_in}
use Rattle.history_core.specs.Histories.{Shows}

-- the entries show this state at version n
abbrev pub ShowsState : List Answered → ShardId → ℕ → ShardState → Type 0
ShowsState own shard n s = (b : List ℕ) × (x : Transition) × Shows own shard n b × (version_in shard n b ≡ Some (s, x))

-- a version in which this member joined
abbrev pub JoinsAs : Option (ShardState × Transition) → ℕ → Type 0
JoinsAs (Some (s, Join kind now lease)) member = s.next_member ≡ member + 1
JoinsAs _ member = ⊥

-- a Cas with the Join of this member, answered Committed
abbrev pub IsJoin : ShardId → ℕ → Call → Reply → Type 0
IsJoin shard member (calls.Cas at_shard expected bytes) (replies.Committed n) =
    (at_shard ≡ shard) × JoinsAs (version_in shard n bytes) member
IsJoin _ _ _ _ = ⊥

-- a client owns a member where its own Join of that member was answered Committed
abbrev pub Owns : List Answered → ShardId → ℕ → Type 0
Owns own shard member = Among (λ o. IsJoin shard member o.entry.call o.reply) own

-- a client owns the member, where there is one
abbrev pub OwnsSome : List Answered → ShardId → Option ℕ → Type 0
OwnsSome own shard None = ⊤
OwnsSome own shard (Some member) = Owns own shard member

-- a version whose transition spends this token of this member
abbrev pub SpendsIn : Option (ShardState × Transition) → ℕ → ℕ → Type 0
SpendsIn (Some (s, x)) member token = Spends x member token
SpendsIn None member token = ⊥

-- a Cas, committed or not, that spends this token of this member
abbrev pub IsCasUnder : ShardId → ℕ → ℕ → Call → Type 0
IsCasUnder shard member token (calls.Cas at_shard (Some n) bytes) =
    (at_shard ≡ shard) × SpendsIn (version_in shard (n + 1) bytes) member token
IsCasUnder _ _ _ _ = ⊥

-- if it is a Set of the key, it has these bytes
abbrev pub SetsSame : PartKey → List ℕ → Call → Type 0
SetsSame key bytes (calls.Set k b) = k ≡ key → b ≡ bytes
SetsSame _ _ _ = ⊤

-- a Set of the key with these bytes, answered Stored
abbrev pub IsStored : PartKey → List ℕ → Call → Reply → Type 0
IsStored key bytes (calls.Set k b) replies.Stored = (k ≡ key) × (b ≡ bytes)
IsStored _ _ _ _ = ⊥

-- a Get of the key, answered with these bytes
abbrev pub IsGot : PartKey → List ℕ → Call → Reply → Type 0
IsGot key bytes (calls.Get k) (replies.Bytes (Some b)) = (k ≡ key) × (b ≡ bytes)
IsGot _ _ _ _ = ⊥

-- a Delete of the key, answered Deleted
abbrev pub IsDeleted : PartKey → Call → Reply → Type 0
IsDeleted key (calls.Delete k) replies.Deleted = k ≡ key
IsDeleted _ _ _ = ⊥

-- the client stored these bytes under the key
abbrev pub StoredAs : List Answered → PartKey → List ℕ → Type 0
StoredAs own k b = Among (λ o. IsStored k b o.entry.call o.reply) own

-- the client got these bytes from the key
abbrev pub GotAs : List Answered → PartKey → List ℕ → Type 0
GotAs own k b = Among (λ o. IsGot k b o.entry.call o.reply) own

-- The key's member is owned, no Cas yet has spent the key's token, and each earlier Set of the key had the same bytes.
pub record SetAllowed (own : List Answered) (key : PartKey) (bytes : List ℕ) : Type 0 where
  pub owned : Owns own key.shard key.member
  pub fresh : ¬ Among (λ o. IsCasUnder key.shard key.member key.token o.entry.call) own
  pub same : AllByRecursion (λ o. SetsSame key bytes o.entry.call) own

-- the parts in order hold these rows, by the bytes that P gives each key
abbrev pub Hold : (PartKey → List ℕ → Type 0) → List PartKey → List Update → Type 0
Hold P [] rows = rows ≡ []
Hold P (k ∷ ks) rows =
    (b : List ℕ) × (first : List Update) × (rest : List Update) × P k b × (rows_in b ≡ Some first) ×
    (rows ≡ first ++ rest) × Hold P ks rest

-- The parts were stored, and hold rows that rise in the append's range: as many as it says, and of no more than its weight.
pub record AppendHolds (own : List Answered) (expected : ℕ) (new : Option ℕ) (parts : List PartKey) (rows weight : ℕ) : Type 0 where
  pub updates : List Update
  pub hold : Hold (StoredAs own) parts updates
  pub rising : Rising updates
  pub in_range : between (Some expected) new updates ≡ updates
  pub count : length updates ≡ rows
  pub light : weight_of updates ≤ weight

-- The parts were stored, and hold the consolidation of what was got from the parts of both batches, moved up to the new since.
pub record MergeHolds (own : List Answered) (left right merged : Batch) : Type 0 where
  pub inputs : List Update
  pub outputs : List Update
  pub read : Hold (GotAs own) (left.parts ++ right.parts) inputs
  pub hold : Hold (StoredAs own) merged.parts outputs
  pub cons : IsCons (moved inputs merged.desc.since) outputs
  pub count : length outputs ≡ merged.rows

-- what the parts of a transition must hold
abbrev pub Holds : List Answered → Transition → Type 0
Holds own (Append member token expected new parts rows weight) = AppendHolds own expected new parts rows weight
Holds own (Merge member token left right merged) = MergeHolds own left right merged
Holds own _ = ⊤

-- A state was shown at version n, the bytes hold a transition that applies to it, and its member is owned.
pub record CasAllowed (own : List Answered) (shard : ShardId) (n : ℕ) (bytes : List ℕ) : Type 0 where
  pub from : ShardState
  pub to : ShardState
  pub step : Transition
  pub shown : ShowsState own shard n from
  pub written : version_in shard (n + 1) bytes ≡ Some (to, step)
  pub applies : Applies from step to
  pub owned : OwnsSome own shard (acts_for step)
  pub holds : Holds own step

-- a version whose transition takes the key
abbrev pub TakesIn : Option (ShardState × Transition) → PartKey → Type 0
TakesIn (Some (s, x)) key = Takes x key
TakesIn None key = ⊥

-- among these versions one not above top takes the key
abbrev pub TakenUpTo : ShardId → ℕ → List Version → PartKey → Type 0
TakenUpTo shard top vs key = Among (λ v. (v.number ≤ top) × TakesIn (version_in shard v.number v.bytes) key) vs

-- the last of these versions has this state
abbrev pub NewestIs : ShardId → List Version → ShardState → Type 0
NewestIs shard [] s = ⊥
NewestIs shard (v ∷ []) s = (x : Transition) × (version_in shard v.number v.bytes ≡ Some (s, x))
NewestIs shard (v ∷ w ∷ vs) s = NewestIs shard (w ∷ vs) s

-- a Scan in which a version not above the floor of the last state takes the key
abbrev pub IsScanTaking : PartKey → Call → Reply → Type 0
IsScanTaking key (calls.Scan shard from) (replies.Versions vs) =
    (shard ≡ key.shard) × ((s : ShardState) × NewestIs shard vs s × TakenUpTo shard (floor s) vs key)
IsScanTaking _ _ _ = ⊥

-- the client deleted the key
abbrev pub DeletedBy : List Answered → PartKey → Type 0
DeletedBy own k = Among (λ o. IsDeleted k o.entry.call o.reply) own

-- each key that a version below the number takes was answered Deleted
abbrev pub AllDeleted : List Answered → ShardId → ℕ → List Version → Type 0
AllDeleted own shard below vs =
    AllByRecursion (λ v. v.number < below → (k : PartKey) → TakesIn (version_in shard v.number v.bytes) k → DeletedBy own k) vs

-- a Scan from 0 whose floor isn't below the number, where each key that it shows taken below the number was answered Deleted
abbrev pub IsScanCovering : List Answered → ShardId → ℕ → Call → Reply → Type 0
IsScanCovering own shard below (calls.Scan at_shard from) (replies.Versions vs) =
    (at_shard ≡ shard) × (from ≡ 0) × ((s : ShardState) × NewestIs shard vs s × (below ≤ floor s) × AllDeleted own shard below vs)
IsScanCovering _ _ _ _ _ = ⊥

-- the calls that a client with these entries may make
abbrev pub Allows : List Answered → Call → Type 0
Allows own (calls.Head shard) = ⊤
Allows own (calls.Scan shard from) = ⊤
Allows own (calls.Get key) = ⊤
Allows own (calls.Set key bytes) = SetAllowed own key bytes
Allows own (calls.Cas shard None bytes) = version_in shard 0 bytes ≡ Some (init shard, Init)
Allows own (calls.Cas shard (Some n) bytes) = CasAllowed own shard n bytes
Allows own (calls.Delete key) = Among (λ o. IsScanTaking key o.entry.call o.reply) own
Allows own (calls.Truncate shard below) = Among (λ o. IsScanCovering own shard below o.entry.call o.reply) own

-- each entry is allowed by those before it
abbrev pub OwnLawful : List Answered → Type 0
OwnLawful [] = ⊤
OwnLawful (o ∷ older) = Allows older o.entry.call × OwnLawful older

-- every client keeps the discipline, in a history of these entries, newest first
abbrev pub LawfulBack : Stored → List Entry → Type 0
LawfulBack start es = (c : ℕ) → OwnLawful (mine_back start es c)

-- every client keeps the discipline
abbrev pub Lawful : History → Type 0
Lawful h = (c : ℕ) → OwnLawful (reverse (mine h c))
