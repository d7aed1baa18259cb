-- Which answer of a compactor, a collector or an expirer is legal over a history. Entries go newest first.
use Rattle.std.specs.Prelude.{◌≡◌, ◌≢◌, ℕ, ◌+◌, ◌<◌, false, List, [], ◌∷◌, reverse, Some, None, IsSomeAnd, if◌then◌else◌, ◌⊎◌, ⊤}
use Rattle.std.specs.List.{list_any}
use Rattle.store_core.specs.declared.shards.ShardId.{ShardId}
use Rattle.store_core.specs.declared.part_keys.PartKey.{PartKey}
use Rattle.store_core.specs.declared.versions.Version.{Version}
use Rattle.store_core.specs.declared.calls.Call.{Call}
use Rattle.store_core.specs.declared.calls.Call.TheVariants as calls
use Rattle.store_core.specs.declared.replies.Reply.TheVariants as replies
use Rattle.store_core.specs.declared.outcomes.Outcome.{Outcome}
use Rattle.store_core.specs.declared.outcomes.Outcome.TheVariants.{Took}
use Rattle.store_core.specs.declared.entries.Entry.{Entry}
use Rattle.store_core.specs.Stores.{Stored}
use Rattle.store_core.specs.Histories.{History}
use Rattle.store_core.specs.Newest.{replay_back}
use Rattle.spine_core.specs.declared.batches.Batch.{Batch}
use Rattle.spine_core.specs.Settled.{due_place, weights_of}
use Rattle.state_core.specs.declared.kinds.Kind.TheVariants.{Keeper}
use Rattle.state_core.specs.declared.members.Member.{Member}
use Rattle.state_core.specs.declared.transitions.Transition.TheVariants.{Join, Renew, Expire, Merge}
use Rattle.state_core.specs.Lists.{Among}
use Rattle.state_core.specs.Refusals.{follows}
use Rattle.state_core.specs.States.{ShardState, floor}
use Rattle.state_core.specs.Steps.{Stands, is_out}
use Rattle.version_codec.specs.Reading.{version_in}
use Rattle.history_core.specs.declared.asked.Asked.{Asked}
use Rattle.history_core.specs.declared.asked.Asked.TheVariants as asks
use Rattle.history_core.specs.declared.merge_answers.MergeAnswer.{MergeAnswer}
use Rattle.history_core.specs.declared.merge_answers.MergeAnswer.TheVariants as merges
use Rattle.history_core.specs.declared.collect_answers.CollectAnswer.{CollectAnswer}
use Rattle.history_core.specs.declared.collect_answers.CollectAnswer.TheVariants as collects
use Rattle.history_core.specs.declared.expire_answers.ExpireAnswer.{ExpireAnswer}
use Rattle.history_core.specs.declared.expire_answers.ExpireAnswer.TheVariants as expiries
use Rattle.history_core.specs.Discipline.{NewestIs, TakenUpTo}
use Rattle.history_core.specs.Histories.{version_at}
use Rattle.history_core.specs.Stands.{end_of}
use Rattle.history_core.specs.Placing.{Placed, store_at, reply_at, Commits, CommittedAs, AtLastScan}
use Rattle.history_core.specs.Legal.{Command, entries_of, AtLast, Absent, Full, Left}

-- ---- a compactor

-- the keeper stands, and P holds of it
abbrev pub HasKeeper : ℕ → (Member → Type 0) → ShardState → Type 0
HasKeeper member P s = Stands member (λ m. (m.kind ≡ Keeper) × P m) s.members

-- a Cas committed the keeper's join as this version
abbrev pub KeeperJoined : Stored → ShardId → ℕ → ℕ → ℕ → ℕ → List Placed → Type 0
KeeperJoined start shard now lease member version ps =
    Among (λ p. (c : CommittedAs start shard (Join Keeper now lease) version p) × (c.to.next_member ≡ member + 1)) ps

-- the call is a Cas that carries a merge of these two batches, under this token of the member
pub record TriesMerge (shard : ShardId) (member token : ℕ) (left right : Batch) (call : Call) : Type 0 where
  pub expected : ℕ
  pub bytes : List ℕ
  pub to : ShardState
  pub merged : Batch
  pub call_is : call ≡ calls.Cas shard (Some expected) bytes
  pub carries : version_in shard (expected + 1) bytes ≡ Some (to, Merge member token left right merged)

-- the entry committed a merge under this token of the member as this version, whether it was answered so or failed
pub record MergedAs (start : Stored) (shard : ShardId) (member token version : ℕ) (p : Placed) : Type 0 where
  pub left : Batch
  pub right : Batch
  pub tries : TriesMerge shard member token left right p.entry.call
  pub commits : Commits start shard p
  pub version_is : version ≡ tries.expected + 1

-- at the last Scan, of this version, the keeper stands and no pair is due
abbrev pub NoneIsDue : Stored → ShardId → ℕ → ℕ → List Placed → Type 0
NoneIsDue start shard member version ps =
    AtLastScan shard (AtLast start shard (λ n s. (n ≡ version) × HasKeeper member (λ m. ⊤) s ×
    (due_place (weights_of s.batches) ≡ None))) ps

-- at the last Scan, of this version, the keeper stands with another token, and left followed by right doesn't stand
abbrev pub PairIsGone : Stored → ShardId → ℕ → ℕ → Batch → Batch → ℕ → List Placed → Type 0
PairIsGone start shard member token left right version ps =
    AtLastScan shard (AtLast start shard (λ n s. (n ≡ version) × HasKeeper member (λ m. m.token ≢ token) s ×
    (follows left right s.batches ≡ false))) ps

-- a merge of two batches was tried, and they are gone
abbrev pub IsSuperseded : Stored → ShardId → ℕ → ℕ → ℕ → List Placed → Type 0
IsSuperseded start shard member token version ps =
    (left : Batch) × (right : Batch) × Among (λ p. TriesMerge shard member token left right p.entry.call) ps ×
    PairIsGone start shard member token left right version ps

-- to a command of a member, with the token that was drawn
abbrev pub LegalOfCompactor : Stored → ShardId → ℕ → ℕ → List Placed → Asked → MergeAnswer → Type 0
LegalOfCompactor start shard member token ps asks.Merge (merges.Merged version) =
    Among (MergedAs start shard member token version) ps
LegalOfCompactor start shard member token ps asks.Merge (merges.NothingDue version) = NoneIsDue start shard member version ps
LegalOfCompactor start shard member token ps asks.Merge (merges.Superseded version) =
    IsSuperseded start shard member token version ps
LegalOfCompactor start shard member token ps asks.Merge (merges.Expired version) = Absent start shard member version ps
LegalOfCompactor start shard member token ps (asks.RenewCompactor now) (merges.Renewed version) =
    Among (CommittedAs start shard (Renew member now) version) ps
LegalOfCompactor start shard member token ps (asks.RenewCompactor now) (merges.Expired version) =
    Absent start shard member version ps
LegalOfCompactor start shard member token ps asks.CloseCompactor (merges.Closed version) = Left start shard member version ps
LegalOfCompactor _ _ _ _ _ _ _ = ⊥

-- to any command
abbrev pub LegalMergeAt : Stored → Command → List Placed → Asked → MergeAnswer → Type 0
LegalMergeAt start c ps (asks.OpenCompactor shard now lease) (merges.Opened member version) =
    KeeperJoined start shard now lease member version ps
LegalMergeAt start c ps (asks.OpenCompactor shard now lease) (merges.MembersFull version) = Full start shard version ps
LegalMergeAt start c ps asked answer =
    IsSomeAnd c.member (λ member. LegalOfCompactor start c.shard member c.token ps asked answer)

-- ---- a collector

-- the floor that these versions show: that of the last one's state, and 0 where there is none
abbrev pub FloorIs : ShardId → List Version → ℕ → Type 0
FloorIs shard [] at = at ≡ 0
FloorIs shard (v ∷ vs) at = (s : ShardState) × NewestIs shard (v ∷ vs) s × (at ≡ floor s)

-- each key that one of these versions takes, of those up to the floor, is absent, and no version below the floor is live
pub record IsCleared (store : Stored) (shard : ShardId) (at : ℕ) (vs : List Version) : Type 0 where
  pub keys : (k : PartKey) → TakenUpTo shard at vs k → store.blobs k ≡ None
  pub versions : (n : ℕ) → n < at → version_at (store.logs shard) n ≡ None

-- the entry is a Scan from 0 that showed this floor, and what it showed to lie below is gone from a later store
abbrev pub IsClearedSince : Stored → Stored → ShardId → ℕ → Placed → Type 0
IsClearedSince start now shard at p =
    (p.entry.call ≡ calls.Scan shard 0) ×
    ((vs : List Version) × (reply_at start p ≡ replies.Versions vs) × FloorIs shard vs at × IsCleared now shard at vs)

-- 1 for a Delete that was answered, else 0
abbrev pub delete_of : Call → Outcome → ℕ
delete_of (calls.Delete key) Took = 1
delete_of _ _ = 0

-- how many of the entries are Deletes that were answered
abbrev pub deletes_of : List Placed → ℕ
deletes_of [] = 0
deletes_of (p ∷ ps) = delete_of p.entry.call p.entry.outcome + deletes_of ps

-- to a collection, with this store in the end
abbrev pub LegalCollection : Stored → Stored → ShardId → List Placed → CollectAnswer → Type 0
LegalCollection start now shard ps (collects.Collected at deleted) =
    AtLastScan shard (IsClearedSince start now shard at) ps × (deleted ≡ deletes_of ps)

-- to any command
abbrev pub LegalCollectAt : Stored → Stored → Command → List Placed → Asked → CollectAnswer → Type 0
LegalCollectAt start now c ps asks.Collect answer = LegalCollection start now c.shard ps answer
LegalCollectAt _ _ _ _ _ _ = ⊥

-- ---- an expirer

-- the numbers of the members whose lease has run out
abbrev pub out_numbers : ℕ → List Member → List ℕ
out_numbers now [] = []
out_numbers now (m ∷ ms) = if is_out now m then m.number ∷ out_numbers now ms else out_numbers now ms

-- a Cas committed the expiry, of the members whose lease had run out in the state before
abbrev pub RemovedAt : Stored → ShardId → ℕ → List ℕ → Placed → Type 0
RemovedAt start shard now members p =
    ((version : ℕ) × CommittedAs start shard (Expire now) version p) ×
    AtLast start shard (λ n s. members ≡ out_numbers now s.members) p

-- no lease has run out in the last version, which is this one; or there is none
abbrev pub NoneDueAt : Stored → ShardId → ℕ → ℕ → Placed → Type 0
NoneDueAt start shard now version p =
    ((version ≡ 0) × (end_of ((store_at start p).logs shard) ≡ 0)) ⊎
    AtLast start shard (λ n s. (n ≡ version) × (list_any (is_out now) s.members ≡ false)) p

-- to an expiry: the removed ones by a commit of the command, none due by its last Scan
abbrev pub LegalExpiry : ℕ → ShardId → Stored → List Placed → ExpireAnswer → Type 0
LegalExpiry now shard start ps (expiries.Removed members) = Among (RemovedAt start shard now members) ps
LegalExpiry now shard start ps (expiries.NoneDue version) = AtLastScan shard (NoneDueAt start shard now version) ps

-- to any command
abbrev pub LegalExpireAt : Stored → Command → List Placed → Asked → ExpireAnswer → Type 0
LegalExpireAt start c ps (asks.Expire now) answer = LegalExpiry now c.shard start ps answer
LegalExpireAt _ _ _ _ _ = ⊥

-- ---- over a history

-- a compactor's answer to its command, after these entries
abbrev pub LegalMergeBack : Stored → List Entry → Command → MergeAnswer → Type 0
LegalMergeBack start es c answer = LegalMergeAt start c (entries_of c es) c.asked answer

-- and at the end of a history
abbrev pub LegalMerge : History → Command → MergeAnswer → Type 0
LegalMerge h c answer = LegalMergeBack h.start (reverse h.trail) c answer

-- a collector's answer to its command, after these entries
abbrev pub LegalCollectBack : Stored → List Entry → Command → CollectAnswer → Type 0
LegalCollectBack start es c answer = LegalCollectAt start (replay_back start es) c (entries_of c es) c.asked answer

-- and at the end of a history
abbrev pub LegalCollect : History → Command → CollectAnswer → Type 0
LegalCollect h c answer = LegalCollectBack h.start (reverse h.trail) c answer

-- an expirer's answer to its command, after these entries
abbrev pub LegalExpireBack : Stored → List Entry → Command → ExpireAnswer → Type 0
LegalExpireBack start es c answer = LegalExpireAt start c (entries_of c es) c.asked answer

-- and at the end of a history
abbrev pub LegalExpire : History → Command → ExpireAnswer → Type 0
LegalExpire h c answer = LegalExpireBack h.start (reverse h.trail) c answer
