-- Which answer to a command is legal over a history: the one that the plain collection gives at the place that it is about.
-- Entries go newest first.
use Rattle.std.specs.Prelude.{◌≡◌, ℕ, ◌+◌, ◌<◌, List, ◌∷◌, length, reverse, Option, IsSomeAnd, ◌⊎◌, ⊤}
use Rattle.std.specs.List.{AllByRecursion}
use Rattle.update_core.specs.Limits.{max_members}
use Rattle.update_core.specs.declared.updates.Update.{Update}
use Rattle.update_core.specs.Frontiers.{after}
use Rattle.update_core.specs.Updates.{weight_of}
use Rattle.update_core.specs.Collections.{Collection as PlainCollection, AppendAnswer, append_answer, extended, SnapshotAnswer, snapshot_answer, ListenAnswer, listen_answer}
use Rattle.update_core.specs.Collections.{accepted as append_accepted, mismatch, heavy, content, early, late, behind, ended, quiet, step}
use Rattle.store_core.specs.declared.shards.ShardId.{ShardId}
use Rattle.store_core.specs.declared.part_keys.PartKey.{PartKey}
use Rattle.store_core.specs.declared.entries.Entry.{Entry}
use Rattle.store_core.specs.Stores.{Stored}
use Rattle.store_core.specs.Histories.{History}
use Rattle.store_core.specs.Newest.{replay_back}
use Rattle.state_core.specs.declared.kinds.Kind.TheVariants.{Writer, Reader}
use Rattle.state_core.specs.declared.transitions.Transition.TheVariants.{Join, Leave, Renew, Advance}
use Rattle.state_core.specs.Lists.{Among}
use Rattle.state_core.specs.States.{ShardState, keys_of}
use Rattle.state_core.specs.Steps.{Stands}
use Rattle.history_core.specs.declared.asked.Asked.{Asked}
use Rattle.history_core.specs.declared.asked.Asked.TheVariants as asks
use Rattle.history_core.specs.declared.write_answers.WriteAnswer.{WriteAnswer}
use Rattle.history_core.specs.declared.write_answers.WriteAnswer.TheVariants as writes
use Rattle.history_core.specs.declared.read_answers.ReadAnswer.{ReadAnswer}
use Rattle.history_core.specs.declared.read_answers.ReadAnswer.TheVariants as reads
use Rattle.history_core.specs.Stands.{accepted}
use Rattle.history_core.specs.Questions.{begun_by, ending_past}
use Rattle.history_core.specs.Laws.{LastIs}
use Rattle.history_core.specs.Placing.{Placed, places, store_at, OnlyOne, Commits, CommittedAs, AtLastScan, GotSinceScan}

-- a client's command: its machine's shard and member, the token drawn, the listen's frontier at its begin, what it asked, and
-- how many of the client's newest entries are its own
pub record Command : Type 0 where
  pub client : ℕ
  pub shard : ShardId
  pub member : Option ℕ
  pub token : ℕ
  pub listen : Option (Option ℕ)
  pub asked : Asked
  pub calls : ℕ

-- the entries of a command, where it is the last one of its client
abbrev pub entries_of : Command → List Entry → List Placed
entries_of c es = places c.client c.calls es

-- the plain collection of these updates with the since, the upper and the weight of a state
abbrev pub collection_in : List Update → ShardState → PlainCollection
collection_in updates s = record { updates = updates; since = s.since; upper = s.upper; weight = s.weight }

-- after these entries the shard's last version has a state, and the collection is that of the accepted updates there
abbrev pub CollectionIs : List Update → Stored → ShardId → List Entry → PlainCollection → Type 0
CollectionIs list start shard es c =
    (n : ℕ) × (s : ShardState) × LastIs (replay_back start es) shard n s × (c ≡ collection_in (accepted shard list start es) s)

-- the shard's last version at a place has P of its number and state
abbrev pub AtLast : Stored → ShardId → (ℕ → ShardState → Type 0) → Placed → Type 0
AtLast start shard P p = (n : ℕ) × (s : ShardState) × LastIs (store_at start p) shard n s × P n s

-- ---- members

-- the member stands
abbrev pub HasMember : ℕ → ShardState → Type 0
HasMember member s = Stands member (λ m. ⊤) s.members

-- at the last Scan, of this version, the member is absent
abbrev pub Absent : Stored → ShardId → ℕ → ℕ → List Placed → Type 0
Absent start shard member version ps = AtLastScan shard (AtLast start shard (λ n s. (n ≡ version) × (¬ HasMember member s))) ps

-- at the last Scan, of this version, 256 members stand
abbrev pub Full : Stored → ShardId → ℕ → List Placed → Type 0
Full start shard version ps = AtLastScan shard (AtLast start shard (λ n s. (n ≡ version) × (length s.members ≡ max_members))) ps

-- a Cas committed the leave as this version, or at the last Scan, of this version, the member is absent
abbrev pub Left : Stored → ShardId → ℕ → ℕ → List Placed → Type 0
Left start shard member version ps =
    Among (CommittedAs start shard (Leave member) version) ps ⊎ Absent start shard member version ps

-- a Cas committed the writer's join as this version
abbrev pub WriterJoined : Stored → ShardId → ℕ → ℕ → List Placed → Type 0
WriterJoined start shard member version ps =
    Among (λ p. (c : CommittedAs start shard (Join Writer 0 0) version p) × (c.to.next_member ≡ member + 1)) ps

-- a Cas committed the reader's join as this version, in which the shard's since, and so the reader's, is this one
abbrev pub ReaderJoined : Stored → ShardId → ℕ → ℕ → ℕ → ℕ → ℕ → List Placed → Type 0
ReaderJoined start shard now lease member version since ps =
    Among (λ p. (c : CommittedAs start shard (Join Reader now lease) version p) × (c.to.next_member ≡ member + 1) × (c.to.since ≡ since)) ps

-- ---- appends

-- at the entry the collection accepts the append, and after it the collection is extended by the append's rows
pub record AcceptedAt (list : List Update) (start : Stored) (shard : ShardId) (rows : List Update) (expected : ℕ) (new : Option ℕ)
    (p : Placed) : Type 0 where
  pub before : PlainCollection
  pub after : PlainCollection
  pub before_is : CollectionIs list start shard p.before before
  pub after_is : CollectionIs list start shard (p.entry ∷ p.before) after
  pub answer : append_answer before expected (weight_of rows) ≡ append_accepted
  pub effect : after ≡ extended before rows new (weight_of rows)

-- at a place the collection gives the append this answer
abbrev pub AnswersAppend : List Update → Stored → ShardId → List Update → ℕ → AppendAnswer → Placed → Type 0
AnswersAppend list start shard rows expected answer p =
    (c : PlainCollection) × CollectionIs list start shard p.before c × (append_answer c expected (weight_of rows) ≡ answer)

-- no entry committed, and at the last Scan the collection gives the append this answer
pub record Declined (list : List Update) (start : Stored) (shard : ShardId) (rows : List Update) (expected : ℕ)
    (answer : AppendAnswer) (ps : List Placed) : Type 0 where
  pub none : ¬ Among (Commits start shard) ps
  pub at_scan : AtLastScan shard (AnswersAppend list start shard rows expected answer) ps

-- ---- reads

-- at a place the member stands, and the collection has P
abbrev pub ReadsAt : List Update → Stored → ShardId → ℕ → (PlainCollection → Type 0) → Placed → Type 0
ReadsAt list start shard member P p =
    AtLast start shard (λ n s. HasMember member s × P (collection_in (accepted shard list start p.before) s)) p

-- the same at the last Scan
abbrev pub Reads : List Update → Stored → ShardId → ℕ → (PlainCollection → Type 0) → List Placed → Type 0
Reads list start shard member P ps = AtLastScan shard (ReadsAt list start shard member P) ps

-- the collection gives a snapshot this answer
abbrev pub Snapshots : List Update → Stored → ShardId → ℕ → ℕ → SnapshotAnswer → List Placed → Type 0
Snapshots list start shard member t answer ps = Reads list start shard member (λ c. snapshot_answer c t ≡ answer) ps

-- the collection gives a listen from this frontier this answer
abbrev pub Listens : List Update → Stored → ShardId → ℕ → Option ℕ → ListenAnswer → List Placed → Type 0
Listens list start shard member f answer ps = Reads list start shard member (λ c. listen_answer c f ≡ answer) ps

-- the parts of a state that a snapshot at a time reads
abbrev pub snapshot_keys : ℕ → ShardState → List PartKey
snapshot_keys t s = keys_of (begun_by t s.batches)

-- the parts of a state that a step of a listen from a frontier reads
abbrev pub step_keys : Option ℕ → ShardState → List PartKey
step_keys f s = keys_of (ending_past f s.batches)

-- each of these parts of the last version at the last Scan was answered with bytes since then
abbrev pub PartsGot : Stored → ShardId → (ShardState → List PartKey) → List Placed → Type 0
PartsGot start shard parts ps =
    AtLastScan shard (AtLast start shard (λ n s. AllByRecursion (λ k. GotSinceScan start shard k ps) (parts s))) ps

-- at the last Scan the reader's own since is this one
abbrev pub HasSince : Stored → ShardId → ℕ → ℕ → List Placed → Type 0
HasSince start shard member since ps =
    AtLastScan shard (AtLast start shard (λ n s. Stands member (λ m. m.since ≡ since) s.members)) ps

-- ---- the answers of a writer

-- to a command of a member
abbrev pub LegalOfWriter : List Update → Stored → ShardId → ℕ → List Placed → Asked → WriteAnswer → Type 0
LegalOfWriter list start shard member ps (asks.Append rows expected new) writes.Ok =
    OnlyOne (Commits start shard) (AcceptedAt list start shard rows expected new) ps
LegalOfWriter list start shard member ps (asks.Append rows expected new) (writes.Mismatch current) =
    Declined list start shard rows expected (mismatch current) ps
LegalOfWriter list start shard member ps (asks.Append rows expected new) (writes.Heavy weight) =
    Declined list start shard rows expected (heavy weight) ps
LegalOfWriter list start shard member ps asks.CloseWriter (writes.Closed version) = Left start shard member version ps
LegalOfWriter _ _ _ _ _ _ _ = ⊥

-- to any command
abbrev pub LegalWriteAt : List Update → Stored → Command → List Placed → Asked → WriteAnswer → Type 0
LegalWriteAt list start c ps (asks.OpenWriter shard) (writes.Opened member version) = WriterJoined start shard member version ps
LegalWriteAt list start c ps (asks.OpenWriter shard) (writes.MembersFull version) = Full start shard version ps
LegalWriteAt list start c ps asked answer = IsSomeAnd c.member (λ member. LegalOfWriter list start c.shard member ps asked answer)

-- ---- the answers of a reader

-- to a step of a listen from this frontier
abbrev pub LegalStep : List Update → Stored → ShardId → ℕ → List Placed → Option ℕ → ReadAnswer → Type 0
LegalStep list start shard member ps f (reads.Step from to rows) = (from ≡ f) × Listens list start shard member f (step rows to) ps
LegalStep list start shard member ps f (reads.Early since) = Listens list start shard member f (behind since) ps
LegalStep list start shard member ps f (reads.Quiet upper) = Listens list start shard member f (quiet upper) ps
LegalStep list start shard member ps f reads.Ended = Listens list start shard member f ended ps
LegalStep list start shard member ps f (reads.Expired version) = Absent start shard member version ps
LegalStep _ _ _ _ _ _ _ = ⊥

-- to a command of a member, where a listen stood at this frontier if there was one
abbrev pub LegalOfReader : List Update → Stored → ShardId → ℕ → Option (Option ℕ) → List Placed → Asked → ReadAnswer → Type 0
LegalOfReader list start shard member listen ps (asks.Snapshot t) (reads.Rows rows) =
    Snapshots list start shard member t (content rows) ps
LegalOfReader list start shard member listen ps (asks.Snapshot t) (reads.Early since) =
    Snapshots list start shard member t (early since) ps
LegalOfReader list start shard member listen ps (asks.Snapshot t) (reads.Late upper) =
    Snapshots list start shard member t (late upper) ps
LegalOfReader list start shard member listen ps (asks.Snapshot t) (reads.Expired version) = Absent start shard member version ps
LegalOfReader list start shard member listen ps (asks.Listen as_of) answer =
    LegalStep list start shard member ps (after as_of) answer
LegalOfReader list start shard member listen ps asks.Next answer =
    IsSomeAnd listen (λ f. LegalStep list start shard member ps f answer)
LegalOfReader list start shard member listen ps (asks.Advance to) (reads.Advanced version) =
    Among (CommittedAs start shard (Advance member to) version) ps
LegalOfReader list start shard member listen ps (asks.Advance to) (reads.Back since) =
    HasSince start shard member since ps × (to < since)
LegalOfReader list start shard member listen ps (asks.Advance to) (reads.Expired version) = Absent start shard member version ps
LegalOfReader list start shard member listen ps (asks.RenewReader now) (reads.Renewed version) =
    Among (CommittedAs start shard (Renew member now) version) ps
LegalOfReader list start shard member listen ps (asks.RenewReader now) (reads.Expired version) =
    Absent start shard member version ps
LegalOfReader list start shard member listen ps asks.CloseReader (reads.Closed version) = Left start shard member version ps
LegalOfReader _ _ _ _ _ _ _ _ = ⊥

-- to any command
abbrev pub LegalReadAt : List Update → Stored → Command → List Placed → Asked → ReadAnswer → Type 0
LegalReadAt list start c ps (asks.OpenReader shard now lease) (reads.Opened member version since) =
    ReaderJoined start shard now lease member version since ps
LegalReadAt list start c ps (asks.OpenReader shard now lease) (reads.MembersFull version) = Full start shard version ps
LegalReadAt list start c ps asked answer =
    IsSomeAnd c.member (λ member. LegalOfReader list start c.shard member c.listen ps asked answer)

-- ---- over a history

-- a writer's answer to its command, after these entries
abbrev pub LegalWriteBack : List Update → Stored → List Entry → Command → WriteAnswer → Type 0
LegalWriteBack list start es c answer = LegalWriteAt list start c (entries_of c es) c.asked answer

-- a writer's answer to its command, at the end of a history whose start stands for the list
abbrev pub LegalWrite : List Update → History → Command → WriteAnswer → Type 0
LegalWrite list h c answer = LegalWriteBack list h.start (reverse h.trail) c answer

-- a reader's answer to its command, after these entries
abbrev pub LegalReadBack : List Update → Stored → List Entry → Command → ReadAnswer → Type 0
LegalReadBack list start es c answer = LegalReadAt list start c (entries_of c es) c.asked answer

-- a reader's answer to its command, at the end of a history whose start stands for the list
abbrev pub LegalRead : List Update → History → Command → ReadAnswer → Type 0
LegalRead list h c answer = LegalReadBack list h.start (reverse h.trail) c answer
