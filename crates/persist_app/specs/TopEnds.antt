-- How any command over a store ends, in one record.
use Rattle.std.specs.Prelude.{◌≡◌, ◌⊎◌, ℕ, ◌+◌, Option, Some, IfSome, List, [], ◌∷◌, ◌++◌, codes}
use Rattle.std.specs.Fmt.{decimal}
use Rattle.causes.specs.Causes.{Rose}
use Rattle.feed_text.specs.declared.limits.TheConstants.{MAX_BYTES}
use Rattle.feed_text.specs.Grammar.{frontier_text}
use Rattle.feed_text.specs.Replies.{line_fault_text}
use Rattle.feed_text.specs.Streams.{Gains, Left, ReadsUpTo}
use Rattle.ingest_text.specs.Feeds.{IsFirstFault}
use Rattle.store_core.specs.Histories.{History}
use Rattle.driving.specs.StoreTurns.{EndsInFailure, Extends}
use Rattle.command_words.specs.Commands.{IsCommand}
use Rattle.command_words.specs.declared.commands.CommandWords.TheVariants as commands
use Rattle.plain_run.specs.declared.endings.Ending.TheVariants as endings
use Rattle.plain_run.specs.Endings.{StaysLawful}
use Rattle.ingest_run.specs.declared.faults.IngestFault.TheVariants as faults
use Rattle.ingest_run.specs.Halts.{WritersHalted}
use Rattle.ingest_command.specs.declared.endings.IngestEnding.{IngestEnding}
use Rattle.ingest_command.specs.declared.endings.IngestEnding.TheVariants as ends
use Rattle.ingest_command.specs.Endings.{Completes, EndsShort, FeedGoes, FoundFull, FoundSpent, IsUnfit, ReadsIngest, TakesFirst}
use Rattle.persist_app.specs.declared.crew_words.CrewWords.{CrewWords}
use Rattle.persist_app.specs.Endings.{EndsWith, Finishes, IsStatus, damaged_text, input_failed_text, members_full_text, memory_text}
use Rattle.persist_app.specs.Endings.{spent_text, store_failed_text}
use Rattle.persist_app.specs.PlainEnds.{EndsPlainly}

-- the words are `ingest`, of this shard and a crew of this size
abbrev pub NamesCrew : List (List ℕ) → CrewWords → Type 0
NamesCrew words crew =
    IsCommand words (commands.Ingest crew.shard.0 crew.size.writers crew.size.compactors crew.size.collectors crew.size.stops)

-- they aren't
abbrev pub NoCrew : List (List ℕ) → Type 0
NoCrew words = (crew : CrewWords) → NamesCrew words crew → ⊥

abbrev pub upper_text : Option ℕ → List ℕ
upper_text upper = codes "upper " ++ (frontier_text upper ++ 10 ∷ [])

abbrev pub misfit_text : Option ℕ → List ℕ
misfit_text upper = codes "misfit " ++ (frontier_text upper ++ 10 ∷ [])

abbrev pub heavy_text : ℕ → List ℕ
heavy_text weight = codes "heavy " ++ (decimal weight ++ 10 ∷ [])

-- the statuses of a command over a store
abbrev pub IsTopStatus : ℕ → Type 0
IsTopStatus status = IsStatus status ⊎ ((status ≡ 7) ⊎ (status ≡ 12))

-- the line and its status, or those of want of memory
abbrev pub EndsWithOr : ℕ → ℕ → List ℕ → Option (List ℕ) → Option (List ℕ) → ℕ → ℕ → Type 0
EndsWithOr status wanted line taken taken_now puts puts_now =
    EndsWith status wanted line taken taken_now puts puts_now ⊎ EndsWith status 8 memory_text taken taken_now puts puts_now

-- the last line of an `ingest` that ends so, and its status
abbrev pub FinishesIngest : IngestEnding → ℕ → Option (List ℕ) → Option (List ℕ) → ℕ → ℕ → Type 0
FinishesIngest (ends.AsRun ending) status taken taken_now puts puts_now = Finishes (Some ending) status taken taken_now puts puts_now
FinishesIngest (ends.Upper upper) status taken taken_now puts puts_now = EndsWithOr status 7 (upper_text upper) taken taken_now puts puts_now
FinishesIngest (ends.Misfit upper) status taken taken_now puts puts_now =
    EndsWithOr status 12 (misfit_text upper) taken taken_now puts puts_now
FinishesIngest (ends.Heavy weight) status taken taken_now puts puts_now =
    EndsWithOr status 12 (heavy_text weight) taken taken_now puts puts_now

-- What has become of an `ingest`: of a store's history, of a source's bytes and its count of faults, and of a sink's.
module _ (crew : CrewWords) (told told_now : Option History) (left left_now : Option (List ℕ)) (reads reads_now : ℕ)
    (taken taken_now : Option (List ℕ)) (puts puts_now : ℕ) where
  -- how it ended, by its ending: the status, what then holds, and the last line, before which nothing is written
  abbrev pub CrewSays : IngestEnding → ℕ → Type 0
  CrewSays (ends.AsRun endings.Complete) status =
      (status ≡ 0) × FeedGoes crew.shard told told_now left left_now (Completes crew.shard crew.size.compactors taken taken_now)
  CrewSays (ends.AsRun (endings.BadLine number)) status =
      (status ≡ 3) × ((text : List ℕ) × Left left text × IsFirstFault text number) × Gains taken taken_now (line_fault_text number)
  CrewSays (ends.AsRun endings.InputFailed) status = (status ≡ 4) × Rose reads reads_now × Gains taken taken_now input_failed_text
  CrewSays (ends.AsRun endings.OutputFailed) status = (status ≡ 5) × Rose puts puts_now
  CrewSays (ends.AsRun endings.StoreFailed) status =
      (status ≡ 6) × (ReadsIngest left left_now × IfSome told_now EndsInFailure) × Gains taken taken_now store_failed_text
  CrewSays (ends.AsRun endings.Memory) status = status ≡ 8
  CrewSays (ends.AsRun endings.Damaged) status =
      (status ≡ 9) × FeedGoes crew.shard told told_now left left_now (TakesFirst crew.shard) × Gains taken taken_now damaged_text
  CrewSays (ends.AsRun endings.MembersFull) status =
      (status ≡ 10) × FeedGoes crew.shard told told_now left left_now (FoundFull crew.shard) × Gains taken taken_now members_full_text
  CrewSays (ends.AsRun endings.Spent) status =
      (status ≡ 11) × FeedGoes crew.shard told told_now left left_now (FoundSpent crew.shard) × Gains taken taken_now spent_text
  CrewSays (ends.Upper upper) status =
      (status ≡ 7) × FeedGoes crew.shard told told_now left left_now (EndsShort crew.shard upper)
      × WritersHalted crew.size.writers crew.size.stops told told_now × Gains taken taken_now (upper_text upper)
  CrewSays (ends.Misfit upper) status =
      (status ≡ 12) × FeedGoes crew.shard told told_now left left_now (IsUnfit crew.shard (faults.Misfit upper))
      × Gains taken taken_now (misfit_text upper)
  CrewSays (ends.Heavy weight) status =
      (status ≡ 12) × FeedGoes crew.shard told told_now left left_now (IsUnfit crew.shard (faults.Heavy weight))
      × Gains taken taken_now (heavy_text weight)

  -- it ended in one of these ways
  abbrev pub EndsCrew : ℕ → Type 0
  EndsCrew status = (ending : IngestEnding) × CrewSays ending status

-- What has become of a store's history and its count of faults, of a source's bytes and its counts of reads and faults, and of a
-- sink's bytes and its count of faults, where a command of these words ended with this status.
pub record EndsTop (words : List (List ℕ)) (status : ℕ) (told told_now : Option History) (failed failed_now : ℕ)
    (left left_now : Option (List ℕ)) (reads reads_now faults faults_now : ℕ) (taken taken_now : Option (List ℕ)) (puts puts_now : ℕ)
    : Type 0 where
  -- `ingest`
  pub ingests : (crew : CrewWords) → NamesCrew words crew →
      EndsCrew crew told told_now left left_now faults faults_now taken taken_now puts puts_now status
  pub lawful : (crew : CrewWords) → NamesCrew words crew → StaysLawful crew.shard told told_now
  -- all other words
  pub plain : NoCrew words →
      EndsPlainly words status told told_now failed failed_now left left_now reads reads_now faults faults_now taken taken_now puts puts_now
  -- any words
  pub statuses : IsTopStatus status
  pub store_failed : status ≡ 6 → IfSome told_now EndsInFailure
  pub reading : ReadsUpTo (MAX_BYTES + 1) left left_now reads reads_now
  pub store : Extends told told_now
  pub untouched : (status ≡ 2) ⊎ ((status ≡ 3) ⊎ (status ≡ 4)) → told_now ≡ told
