-- How a schedule ends, before its last line is written.
use Rattle.std.specs.Prelude.{⊤, ◌≡◌, ℕ, Option, List}
use Rattle.causes.specs.Causes.{Rose}
use Rattle.store_core.specs.declared.shards.ShardId.{ShardId}
use Rattle.store_core.specs.Histories.{History}
use Rattle.update_core.specs.Limits.{most}
use Rattle.feed_text.specs.Streams.{AtEnd, Left}
use Rattle.driving.specs.Drives.{Scanned}
use Rattle.driving.specs.Goings.{Goes}
use Rattle.step_text.specs.declared.schedules.Schedule.{Schedule}
use Rattle.step_text.specs.Schedules.{IsFirstFault, Spells}
use Rattle.step_run.specs.declared.endings.Ending.{Ending}
use Rattle.step_run.specs.declared.endings.Ending.TheVariants as endings
use Rattle.step_run.specs.Executing.{Writes}

-- the history isn't told, or isn't lawful, or its start stands for no list
abbrev pub NoCollection : ShardId → Option History → Option History → Type 0
NoCollection shard told told_now = Goes shard told told_now (λ list start es now. ⊥)

-- where the history was told, lawful and from a start that stands for a list, no number was left at a Scan that has come since
abbrev pub FoundSpent : ShardId → Option History → Option History → Type 0
FoundSpent shard told told_now = Goes shard told told_now (λ list start es now. Scanned shard (λ n s. n ≡ most) start es now)

-- where the history was lawful, from a start that stands for a list, it still is
abbrev pub StaysLawful : ShardId → Option History → Option History → Type 0
StaysLawful shard told told_now = Goes shard told told_now (λ list start es now. ⊤)

-- the source's text was read to its end and spells a schedule
pub record ReadsSchedule (left left_now : Option (List ℕ)) : Type 0 where
  pub text : List ℕ
  pub had : Left left text
  pub end : AtEnd left_now
  pub schedule : Schedule
  pub spells : Spells schedule text

-- A schedule was read. Where the store's history is told, lawful and from a start that stands for a list, the entries that have come
-- are those of its lines in turn, and the sink gained their text.
pub record RunsSteps (shard : ShardId) (told told_now : Option History) (left left_now taken taken_now : Option (List ℕ)) : Type 0 where
  pub read : ReadsSchedule left left_now
  pub written : Goes shard told told_now (Writes shard read.schedule taken taken_now)

-- the text spells a schedule
abbrev pub SpellsSchedule : List ℕ → Type 0
SpellsSchedule text = (schedule : Schedule) × Spells schedule text

-- what has become of a text when its lines were executed over a store
abbrev pub AnswersText : ShardId → Ending → Option History → Option History → List ℕ → Option (List ℕ) → Option (List ℕ) → ℕ → ℕ → Type 0
AnswersText shard endings.Complete told told_now text taken taken_now puts puts_now =
    (schedule : Schedule) × Spells schedule text × Goes shard told told_now (Writes shard schedule taken taken_now)
AnswersText shard (endings.BadLine number) told told_now text taken taken_now puts puts_now = IsFirstFault text number × (taken_now ≡ taken)
AnswersText shard endings.InputFailed told told_now text taken taken_now puts puts_now = ⊥
AnswersText shard endings.OutputFailed told told_now text taken taken_now puts puts_now = Rose puts puts_now
AnswersText shard endings.Memory told told_now text taken taken_now puts puts_now = ⊤
AnswersText shard endings.Damaged told told_now text taken taken_now puts puts_now = SpellsSchedule text × NoCollection shard told told_now
AnswersText shard endings.Spent told told_now text taken taken_now puts puts_now = SpellsSchedule text × FoundSpent shard told told_now
AnswersText shard _ told told_now text taken taken_now puts puts_now = SpellsSchedule text

-- what has become of a schedule that ends so
abbrev pub EndsSteps : ShardId → Ending → Option History → Option History → Option (List ℕ) → Option (List ℕ) → ℕ → ℕ → Option (List ℕ) →
    Option (List ℕ) → ℕ → ℕ → Type 0
EndsSteps shard endings.Complete told told_now left left_now reads reads_now taken taken_now puts puts_now =
    RunsSteps shard told told_now left left_now taken taken_now
EndsSteps shard (endings.BadLine number) told told_now left left_now reads reads_now taken taken_now puts puts_now =
    (text : List ℕ) × Left left text × IsFirstFault text number × (taken_now ≡ taken)
EndsSteps shard endings.InputFailed told told_now left left_now reads reads_now taken taken_now puts puts_now =
    Rose reads reads_now × (taken_now ≡ taken)
EndsSteps shard endings.OutputFailed told told_now left left_now reads reads_now taken taken_now puts puts_now = Rose puts puts_now
EndsSteps shard endings.Memory told told_now left left_now reads reads_now taken taken_now puts puts_now = ⊤
EndsSteps shard endings.Damaged told told_now left left_now reads reads_now taken taken_now puts puts_now =
    ReadsSchedule left left_now × NoCollection shard told told_now
EndsSteps shard endings.Spent told told_now left left_now reads reads_now taken taken_now puts puts_now =
    ReadsSchedule left left_now × FoundSpent shard told told_now
EndsSteps shard _ told told_now left left_now reads reads_now taken taken_now puts puts_now = ReadsSchedule left left_now

-- before any line was executed, the store is as it was
abbrev pub Spares : {S : Type 0} → Ending → S → S → Type 0
Spares (endings.BadLine number) store store_now = store_now ≡ store
Spares endings.InputFailed store store_now = store_now ≡ store
Spares _ store store_now = ⊤
