-- How the command `ingest` ends, before its last line is written. Entries go newest first.
use Rattle.std.specs.Prelude.{⊤, ◌≡◌, ◌⊎◌, ◌<◌, ℕ, Option, IfSome, Result, Ok, Err, List}
use Rattle.causes.specs.Causes.{Rose}
use Rattle.update_core.specs.declared.updates.Update.{Update}
use Rattle.store_core.specs.declared.shards.ShardId.{ShardId}
use Rattle.store_core.specs.declared.entries.Entry.{Entry}
use Rattle.store_core.specs.Stores.{Stored}
use Rattle.store_core.specs.Histories.{History}
use Rattle.store_core.specs.Newest.{replay_back}
use Rattle.appends_core.specs.Feeds.{from_upper}
use Rattle.feed_text.specs.Streams.{AtEnd, Gains, Left}
use Rattle.ingest_text.specs.declared.feeds.IngestFeed.{IngestFeed}
use Rattle.ingest_text.specs.Feeds.{IsFirstFault, Spells}
use Rattle.driving.specs.Goings.{Goes}
use Rattle.driving.specs.StoreTurns.{EndsInFailure}
use Rattle.plain_run.specs.declared.endings.Ending.TheVariants as endings
use Rattle.plain_run.specs.Drives.{ScannedFull, ScannedSpent}
use Rattle.plain_run.specs.Endings.{Spares as SparesRun}
use Rattle.plain_run.specs.PlainRuns.{View}
use Rattle.plain_run.specs.Sessions.{StartsAt}
use Rattle.plain_run.specs.Settling.{IsSettledIn}
use Rattle.ingest_run.specs.declared.faults.IngestFault.{IngestFault}
use Rattle.ingest_run.specs.declared.faults.IngestFault.TheVariants as faults
use Rattle.ingest_run.specs.declared.sizes.CrewSize.{CrewSize}
use Rattle.ingest_run.specs.Ends.{Ingests, Takes, TakesSome, TakesUpTo, Unfit}
use Rattle.ingest_run.specs.Halts.{WritersHalted}
use Rattle.ingest_run.specs.PlainIngests.{plain_ingest}
use Rattle.ingest_command.specs.declared.endings.IngestEnding.{IngestEnding}
use Rattle.ingest_command.specs.declared.endings.IngestEnding.TheVariants as ends

-- what is said of a feed, a list and a store's start, and of the entries before and now
abbrev pub Saying : Type 1
Saying = IngestFeed → List Update → Stored → List Entry → List Entry → Type 0

-- The sink gained what one writer alone would print, from the view of the store at the start; all appends from its upper on are in; and
-- with compactors no pair of the last version's batches is due.
pub record Completed (shard : ShardId) (feed : IngestFeed) (compactors : ℕ) (taken taken_now : Option (List ℕ)) (view : View)
    (list : List Update) (start : Stored) (now : List Entry) : Type 0 where
  pub written : Gains taken taken_now (plain_ingest view feed)
  pub takes : Takes shard feed.appends (from_upper view.collection.upper feed.appends) view.collection list start now
  pub settled : 0 < compactors → IsSettledIn (replay_back start now) shard

abbrev pub Completes : ShardId → ℕ → Option (List ℕ) → Option (List ℕ) → Saying
Completes shard compactors taken taken_now feed list start es now =
    (view : View) → StartsAt shard list start es view → Completed shard feed compactors taken taken_now view list start now

-- the first few of the appends from the upper on are in
abbrev pub TakesFirst : ShardId → Saying
TakesFirst shard feed list start es now =
    (view : View) → StartsAt shard list start es view → TakesSome shard feed.appends view.collection list start now

-- they end at this upper, and the feed doesn't
abbrev pub EndsShort : ShardId → Option ℕ → Saying
EndsShort shard upper feed list start es now =
    (view : View) → StartsAt shard list start es view → TakesUpTo shard feed.appends upper view.collection list start now

-- the shard doesn't suit the feed, for this cause, and stays as it is
abbrev pub IsUnfit : ShardId → IngestFault → Saying
IsUnfit shard fault feed list start es now =
    (view : View) → StartsAt shard list start es view → Unfit feed.appends view.collection fault × StartsAt shard list start now view

-- a Scan showed 256 members, or the first few appends are in
abbrev pub FoundFull : ShardId → Saying
FoundFull shard feed list start es now = ScannedFull shard start es now ⊎ TakesFirst shard feed list start es now

-- a Scan showed that no number was left, or the first few appends are in
abbrev pub FoundSpent : ShardId → Saying
FoundSpent shard feed list start es now = ScannedSpent shard start es now ⊎ TakesFirst shard feed list start es now

-- the text spells a feed, and of it this holds, where the history is told, lawful and from a start that stands for a list
abbrev pub TextGoes : ShardId → List ℕ → Option History → Option History → Saying → Type 0
TextGoes shard text told told_now how = (feed : IngestFeed) × Spells feed text × Goes shard told told_now (how feed)

-- what has become of a text when its feed was ingested: the replies, or how the command ends instead
abbrev pub Replies : ShardId → ℕ → List ℕ → Result (List ℕ) IngestEnding → Option History → Option History → Type 0
Replies shard compactors text (Ok bytes) told told_now =
    TextGoes shard text told told_now (λ feed. Ingests shard feed compactors (Ok bytes))
Replies shard compactors text (Err (ends.AsRun (endings.BadLine number))) told told_now = IsFirstFault text number
Replies shard compactors text (Err (ends.AsRun endings.Memory)) told told_now = ⊤
Replies shard compactors text (Err (ends.AsRun endings.StoreFailed)) told told_now =
    (feed : IngestFeed) × Spells feed text × IfSome told_now EndsInFailure
Replies shard compactors text (Err (ends.AsRun endings.Damaged)) told told_now = TextGoes shard text told told_now (TakesFirst shard)
Replies shard compactors text (Err (ends.AsRun endings.MembersFull)) told told_now = TextGoes shard text told told_now (FoundFull shard)
Replies shard compactors text (Err (ends.AsRun endings.Spent)) told told_now = TextGoes shard text told told_now (FoundSpent shard)
Replies shard compactors text (Err (ends.AsRun _)) told told_now = ⊥
Replies shard compactors text (Err (ends.Upper upper)) told told_now = TextGoes shard text told told_now (EndsShort shard upper)
Replies shard compactors text (Err (ends.Misfit upper)) told told_now = TextGoes shard text told told_now (IsUnfit shard (faults.Misfit upper))
Replies shard compactors text (Err (ends.Heavy weight)) told told_now = TextGoes shard text told told_now (IsUnfit shard (faults.Heavy weight))

-- what is written of them, and how the command then ends
abbrev pub Writes : Result (List ℕ) IngestEnding → IngestEnding → Option (List ℕ) → Option (List ℕ) → ℕ → ℕ → Type 0
Writes (Ok bytes) ending taken taken_now puts puts_now =
    ((ending ≡ ends.AsRun endings.Complete) × Gains taken taken_now bytes) ⊎ ((ending ≡ ends.AsRun endings.OutputFailed) × Rose puts puts_now)
Writes (Err fault) ending taken taken_now puts puts_now = (ending ≡ fault) × (taken_now ≡ taken)

-- the source's text was read to its end and spells a feed
pub record ReadsIngest (left left_now : Option (List ℕ)) : Type 0 where
  pub text : List ℕ
  pub had : Left left text
  pub end : AtEnd left_now
  pub feed : IngestFeed
  pub spells : Spells feed text

-- A feed was read. Of it this holds, where the history is told, lawful and from a start that stands for a list.
pub record FeedGoes (shard : ShardId) (told told_now : Option History) (left left_now : Option (List ℕ)) (how : Saying) : Type 0 where
  pub read : ReadsIngest left left_now
  pub goes : Goes shard told told_now (how read.feed)

-- what has become of the command where it ends so; but for its replies it writes nothing
abbrev pub EndsIngest : ShardId → ℕ → IngestEnding → Option History → Option History → Option (List ℕ) → Option (List ℕ) → ℕ → ℕ →
    Option (List ℕ) → Option (List ℕ) → ℕ → ℕ → Type 0
EndsIngest shard compactors (ends.AsRun endings.Complete) told told_now left left_now reads reads_now taken taken_now puts puts_now =
    FeedGoes shard told told_now left left_now (Completes shard compactors taken taken_now)
EndsIngest shard compactors (ends.AsRun (endings.BadLine number)) told told_now left left_now reads reads_now taken taken_now puts puts_now =
    ((text : List ℕ) × Left left text × IsFirstFault text number) × (taken_now ≡ taken)
EndsIngest shard compactors (ends.AsRun endings.InputFailed) told told_now left left_now reads reads_now taken taken_now puts puts_now =
    Rose reads reads_now × (taken_now ≡ taken)
EndsIngest shard compactors (ends.AsRun endings.OutputFailed) told told_now left left_now reads reads_now taken taken_now puts puts_now =
    Rose puts puts_now
EndsIngest shard compactors (ends.AsRun endings.StoreFailed) told told_now left left_now reads reads_now taken taken_now puts puts_now =
    (ReadsIngest left left_now × IfSome told_now EndsInFailure) × (taken_now ≡ taken)
EndsIngest shard compactors (ends.AsRun endings.Memory) told told_now left left_now reads reads_now taken taken_now puts puts_now =
    taken_now ≡ taken
EndsIngest shard compactors (ends.AsRun endings.Damaged) told told_now left left_now reads reads_now taken taken_now puts puts_now =
    FeedGoes shard told told_now left left_now (TakesFirst shard) × (taken_now ≡ taken)
EndsIngest shard compactors (ends.AsRun endings.MembersFull) told told_now left left_now reads reads_now taken taken_now puts puts_now =
    FeedGoes shard told told_now left left_now (FoundFull shard) × (taken_now ≡ taken)
EndsIngest shard compactors (ends.AsRun endings.Spent) told told_now left left_now reads reads_now taken taken_now puts puts_now =
    FeedGoes shard told told_now left left_now (FoundSpent shard) × (taken_now ≡ taken)
EndsIngest shard compactors (ends.Upper upper) told told_now left left_now reads reads_now taken taken_now puts puts_now =
    FeedGoes shard told told_now left left_now (EndsShort shard upper) × (taken_now ≡ taken)
EndsIngest shard compactors (ends.Misfit upper) told told_now left left_now reads reads_now taken taken_now puts puts_now =
    FeedGoes shard told told_now left left_now (IsUnfit shard (faults.Misfit upper)) × (taken_now ≡ taken)
EndsIngest shard compactors (ends.Heavy weight) told told_now left left_now reads reads_now taken taken_now puts puts_now =
    FeedGoes shard told told_now left left_now (IsUnfit shard (faults.Heavy weight)) × (taken_now ≡ taken)

-- before anything was ingested, the store is as it was
abbrev pub Spares : {S : Type 0} → IngestEnding → S → S → Type 0
Spares (ends.AsRun ending) store store_now = SparesRun ending store store_now
Spares _ store store_now = ⊤

abbrev pub SparesReply : {S V : Type 0} → Result V IngestEnding → S → S → Type 0
SparesReply (Ok bytes) store store_now = ⊤
SparesReply (Err ending) store store_now = Spares ending store store_now

-- an upper is told only where each writer was halted
abbrev pub IsTold : CrewSize → IngestEnding → Option History → Option History → Type 0
IsTold size (ends.Upper upper) told told_now = WritersHalted size.writers size.stops told told_now
IsTold size _ told told_now = ⊤

abbrev pub IsToldReply : {V : Type 0} → CrewSize → Result V IngestEnding → Option History → Option History → Type 0
IsToldReply size (Ok text) told told_now = ⊤
IsToldReply size (Err ending) told told_now = IsTold size ending told told_now
