-- How a run ends, before its last line is written.
use Rattle.std.specs.Prelude.{◌≡◌, ◌⊎◌, ◌≤◌, ⊤, ℕ, true, Option, List, [], ◌∷◌, codes}
use Rattle.causes.specs.Causes.{Rose}
use Rattle.feed_text.specs.declared.feed_lines.FeedLine.{FeedLine}
use Rattle.feed_text.specs.Grammar.{Spells, IsFirstFault}
use Rattle.feed_text.specs.Streams.{Left, AtEnd, Gains}
use Rattle.plain_run.specs.declared.endings.Ending.{Ending}
use Rattle.store_core.specs.declared.shards.ShardId.{ShardId}
use Rattle.plain_run.specs.declared.endings.Ending.TheVariants as endings
use Rattle.update_core.specs.declared.updates.Update.{Update}
use Rattle.store_core.specs.declared.entries.Entry.{Entry}
use Rattle.store_core.specs.Stores.{Stored}
use Rattle.store_core.specs.Histories.{History}
use Rattle.store_core.specs.Newest.{replay_back}
use Rattle.history_core.specs.Stands.{StandsFor}
use Rattle.plain_run.specs.Drives.{ScannedFull, ScannedSpent}
use Rattle.driving.specs.Goings.{Goes}
use Rattle.plain_run.specs.PlainRuns.{View, plain_end, plain_run}
use Rattle.plain_run.specs.Sessions.{StartsAt}
use Rattle.plain_run.specs.Settling.{IsSettledIn, ends_compact}

-- From the view of the store at the start the sink has gained the plain run of a feed, and the store stands for what the plain run
-- ends with. Where the feed's last command is `compact`, no pair of the last version's batches is due.
abbrev pub AnswersFeed : ShardId → List FeedLine → Option (List ℕ) → Option (List ℕ) → List Update → Stored → List Entry → List Entry → Type 0
AnswersFeed shard feed taken taken_now list start es now =
    (view : View) → StartsAt shard list start es view →
    Gains taken taken_now (plain_run view feed) × StandsFor (replay_back start now) shard (plain_end view feed).collection.updates ×
    (ends_compact feed ≡ true → IsSettledIn (replay_back start now) shard)

-- the history isn't told, or isn't lawful, or its start stands for no list
abbrev pub NoCollection : ShardId → Option History → Option History → Type 0
NoCollection shard told told_now = Goes shard told told_now (λ list start es now. ⊥)

-- where the history was told, lawful and from a start that stands for a list, 256 members stood at a Scan that has come since
abbrev pub FoundFull : ShardId → Option History → Option History → Type 0
FoundFull shard told told_now = Goes shard told told_now (λ list start es now. ScannedFull shard start es now)

-- the same where no number was left
abbrev pub FoundSpent : ShardId → Option History → Option History → Type 0
FoundSpent shard told told_now = Goes shard told told_now (λ list start es now. ScannedSpent shard start es now)

-- where the history was lawful, from a start that stands for a list, it still is
abbrev pub StaysLawful : ShardId → Option History → Option History → Type 0
StaysLawful shard told told_now = Goes shard told told_now (λ list start es now. ⊤)

-- the source's text was read to its end and spells a feed
pub record ReadsFeed (left left_now : Option (List ℕ)) : Type 0 where
  pub text : List ℕ
  pub had : Left left text
  pub end : AtEnd left_now
  pub feed : List FeedLine
  pub spells : Spells feed text

-- A feed was read. Where the store's history is told, lawful and from a start that stands for a list, the sink gained the plain run
-- of that feed.
pub record RunsPlainly (shard : ShardId) (told told_now : Option History) (left left_now taken taken_now : Option (List ℕ)) : Type 0 where
  pub read : ReadsFeed left left_now
  pub written : Goes shard told told_now (AnswersFeed shard read.feed taken taken_now)

-- the text spells a feed
abbrev pub SpellsFeed : List ℕ → Type 0
SpellsFeed text = (feed : List FeedLine) × Spells feed text

-- what has become of a text when its commands were executed over a store
abbrev pub AnswersText : ShardId → Ending → Option History → Option History → List ℕ → Option (List ℕ) → Option (List ℕ) → ℕ → ℕ → Type 0
AnswersText shard endings.Complete told told_now text taken taken_now faults faults_now = (feed : List FeedLine) × Spells feed text × Goes shard told told_now (AnswersFeed shard feed taken taken_now)
AnswersText shard (endings.BadLine number) told told_now text taken taken_now faults faults_now = IsFirstFault text number × (taken_now ≡ taken)
AnswersText shard endings.InputFailed told told_now text taken taken_now faults faults_now = ⊥
AnswersText shard endings.OutputFailed told told_now text taken taken_now faults faults_now = Rose faults faults_now
AnswersText shard endings.StoreFailed told told_now text taken taken_now faults faults_now = SpellsFeed text
AnswersText shard endings.Memory told told_now text taken taken_now faults faults_now = ⊤
AnswersText shard endings.Damaged told told_now text taken taken_now faults faults_now = SpellsFeed text × NoCollection shard told told_now
AnswersText shard endings.MembersFull told told_now text taken taken_now faults faults_now = SpellsFeed text × FoundFull shard told told_now
AnswersText shard endings.Spent told told_now text taken taken_now faults faults_now = SpellsFeed text × FoundSpent shard told told_now

-- what has become of a run that ends so, before its last line
abbrev pub EndsRun : ShardId → Ending → Option History → Option History → Option (List ℕ) → Option (List ℕ) → ℕ → ℕ → Option (List ℕ) → Option (List ℕ) → ℕ → ℕ → Type 0
EndsRun shard endings.Complete told told_now left left_now reads reads_now taken taken_now puts puts_now = RunsPlainly shard told told_now left left_now taken taken_now
EndsRun shard (endings.BadLine number) told told_now left left_now reads reads_now taken taken_now puts puts_now = (text : List ℕ) × Left left text × IsFirstFault text number × (taken_now ≡ taken)
EndsRun shard endings.InputFailed told told_now left left_now reads reads_now taken taken_now puts puts_now = Rose reads reads_now × (taken_now ≡ taken)
EndsRun shard endings.OutputFailed told told_now left left_now reads reads_now taken taken_now puts puts_now = Rose puts puts_now
EndsRun shard endings.StoreFailed told told_now left left_now reads reads_now taken taken_now puts puts_now = ReadsFeed left left_now
EndsRun shard endings.Memory told told_now left left_now reads reads_now taken taken_now puts puts_now = ⊤
EndsRun shard endings.Damaged told told_now left left_now reads reads_now taken taken_now puts puts_now = ReadsFeed left left_now × NoCollection shard told told_now
EndsRun shard endings.MembersFull told told_now left left_now reads reads_now taken taken_now puts puts_now = ReadsFeed left left_now × FoundFull shard told told_now
EndsRun shard endings.Spent told told_now left left_now reads reads_now taken taken_now puts puts_now = ReadsFeed left left_now × FoundSpent shard told told_now

-- before any command was executed, the store is as it was
abbrev pub Spares : {S : Type 0} → Ending → S → S → Type 0
Spares (endings.BadLine number) store store_now = store_now ≡ store
Spares endings.InputFailed store store_now = store_now ≡ store
Spares _ store store_now = ⊤
