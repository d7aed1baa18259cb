-- How a program's call ends: its status, and what was read and written.
use Rattle.std.specs.Prelude.{◌≡◌, ◌⊎◌, ◌≤◌, ⊤, ℕ, Option, Some, None, List, codes}
use Rattle.causes.specs.Causes.{Rose}
use Rattle.store_core.specs.declared.shards.ShardId.{ShardId}
use Rattle.store_core.specs.Histories.{History}
use Rattle.feed_text.specs.Grammar.{IsFirstFault}
use Rattle.feed_text.specs.Streams.{Left, Gains}
use Rattle.feed_text.specs.Replies.{line_fault_text}
use Rattle.command_words.specs.Commands.{IsCommand}
use Rattle.command_words.specs.declared.commands.CommandWords.TheVariants as commands
use Rattle.persist_app.specs.declared.served.Served.{Served}
use Rattle.persist_app.specs.declared.served.Served.TheVariants as kinds
use Rattle.plain_run.specs.declared.endings.Ending.{Ending}
use Rattle.plain_run.specs.declared.endings.Ending.TheVariants as endings
use Rattle.plain_run.specs.Endings.{EndsRun, Spares as SparesRun}
use Rattle.step_text.specs.Schedules.{IsFirstFault as IsFirstStepFault}
use Rattle.step_run.specs.declared.endings.Ending.{Ending as StepsEnding}
use Rattle.step_run.specs.declared.endings.Ending.TheVariants as steps
use Rattle.step_run.specs.Endings.{EndsSteps}

-- the words are `run`, of this shard
abbrev pub IsRun : List (List ℕ) → ShardId → Type 0
IsRun words shard = IsCommand words (commands.Run shard.0)

-- the words are `run`, of a shard of which P holds
abbrev pub RunsOn : List (List ℕ) → (ShardId → Type 0) → Type 0
RunsOn words P = (shard : ShardId) × IsRun words shard × P shard

-- the words are `steps`, of this shard
abbrev pub IsSteps : List (List ℕ) → ShardId → Type 0
IsSteps words shard = IsCommand words (commands.Steps shard.0)

-- the words are `steps`, of a shard of which P holds
abbrev pub StepsOn : List (List ℕ) → (ShardId → Type 0) → Type 0
StepsOn words P = (shard : ShardId) × IsSteps words shard × P shard

-- the words are `run`, of a shard of which P holds, or `steps`, of one of which Q holds
abbrev pub Serves : List (List ℕ) → (ShardId → Type 0) → (ShardId → Type 0) → Type 0
Serves words P Q = RunsOn words P ⊎ StepsOn words Q

-- the words are a command that the program has, of this shard
abbrev pub IsServed : List (List ℕ) → ShardId → Type 0
IsServed words shard = IsRun words shard ⊎ IsSteps words shard

-- the words are a command that the program has
abbrev pub HasCommand : List (List ℕ) → Type 0
HasCommand words = (shard : ShardId) × IsServed words shard

-- they are none
abbrev pub NoCommand : List (List ℕ) → Type 0
NoCommand words = (shard : ShardId) → IsServed words shard → ⊥

-- the command that is served
abbrev pub Says : List (List ℕ) → Served → Type 0
Says words (kinds.Run shard) = IsRun words shard
Says words (kinds.Steps shard) = IsSteps words shard

-- the last lines of what doesn't end well
abbrev pub words_text : List ℕ
words_text = codes "words\n"

abbrev pub input_failed_text : List ℕ
input_failed_text = codes "input failed\n"

abbrev pub store_failed_text : List ℕ
store_failed_text = codes "store failed\n"

abbrev pub memory_text : List ℕ
memory_text = codes "memory\n"

abbrev pub damaged_text : List ℕ
damaged_text = codes "damaged\n"

abbrev pub members_full_text : List ℕ
members_full_text = codes "members full\n"

abbrev pub spent_text : List ℕ
spent_text = codes "spent\n"

-- the statuses that there are
abbrev pub IsStatus : ℕ → Type 0
IsStatus status = (status ≡ 0) ⊎ ((status ≡ 2) ⊎ ((status ≡ 3) ⊎ ((status ≡ 4) ⊎ ((status ≡ 5) ⊎ ((status ≡ 6) ⊎ ((status ≡ 8) ⊎ ((status ≡ 9) ⊎ ((status ≡ 10) ⊎ (status ≡ 11)))))))))

-- A line of the source's text is the first outside the grammar or a limit, and the sink gained the line that names it.
pub record RefusesLine (left taken taken_now : Option (List ℕ)) : Type 0 where
  pub text : List ℕ
  pub had : Left left text
  pub number : ℕ
  pub fault : IsFirstFault text number
  pub written : Gains taken taken_now (line_fault_text number)

-- the same of a schedule's line
pub record RefusesStep (left taken taken_now : Option (List ℕ)) : Type 0 where
  pub text : List ℕ
  pub had : Left left text
  pub number : ℕ
  pub fault : IsFirstStepFault text number
  pub written : Gains taken taken_now (line_fault_text number)

-- the line was written and the status is the one that goes with it, or a put failed
abbrev pub EndsWith : ℕ → ℕ → List ℕ → Option (List ℕ) → Option (List ℕ) → ℕ → ℕ → Type 0
EndsWith status wanted line taken taken_now faults faults_now = ((status ≡ wanted) × Gains taken taken_now line) ⊎ ((status ≡ 5) × Rose faults faults_now)

-- the last line of an ending, and its status; where there is none, the words are no command
pub record Finishes (ending : Option Ending) (status : ℕ) (taken taken_now : Option (List ℕ)) (faults faults_now : ℕ) : Type 0 where
  pub known : IsStatus status
  pub complete : status ≡ 0 → (ending ≡ Some endings.Complete) × (taken_now ≡ taken)
  pub no_command : status ≡ 2 → (ending ≡ None) × Gains taken taken_now words_text
  pub line : status ≡ 3 → (number : ℕ) × (ending ≡ Some (endings.BadLine number)) × Gains taken taken_now (line_fault_text number)
  pub input : status ≡ 4 → (ending ≡ Some endings.InputFailed) × Gains taken taken_now input_failed_text
  pub output : status ≡ 5 → (ending ≡ Some endings.OutputFailed) ⊎ Rose faults faults_now
  pub store : status ≡ 6 → (ending ≡ Some endings.StoreFailed) × Gains taken taken_now store_failed_text
  pub damaged : status ≡ 9 → (ending ≡ Some endings.Damaged) × Gains taken taken_now damaged_text
  pub full : status ≡ 10 → (ending ≡ Some endings.MembersFull) × Gains taken taken_now members_full_text
  pub spent : status ≡ 11 → (ending ≡ Some endings.Spent) × Gains taken taken_now spent_text
  pub later : faults ≤ faults_now

-- a schedule ends as a run does
abbrev pub ending_of : StepsEnding → Ending
ending_of steps.Complete = endings.Complete
ending_of (steps.BadLine number) = endings.BadLine number
ending_of steps.InputFailed = endings.InputFailed
ending_of steps.OutputFailed = endings.OutputFailed
ending_of steps.StoreFailed = endings.StoreFailed
ending_of steps.Memory = endings.Memory
ending_of steps.Damaged = endings.Damaged
ending_of steps.Spent = endings.Spent

-- What has become of a schedule that ends so. None ends for want of room for a member: its client says so.
abbrev pub EndsAs : ShardId → Ending → Option History → Option History → Option (List ℕ) → Option (List ℕ) → ℕ → ℕ → Option (List ℕ) →
    Option (List ℕ) → ℕ → ℕ → Type 0
EndsAs shard endings.Complete = EndsSteps shard steps.Complete
EndsAs shard (endings.BadLine number) = EndsSteps shard (steps.BadLine number)
EndsAs shard endings.InputFailed = EndsSteps shard steps.InputFailed
EndsAs shard endings.OutputFailed = EndsSteps shard steps.OutputFailed
EndsAs shard endings.StoreFailed = EndsSteps shard steps.StoreFailed
EndsAs shard endings.Memory = EndsSteps shard steps.Memory
EndsAs shard endings.Damaged = EndsSteps shard steps.Damaged
EndsAs shard endings.MembersFull = λ told told_now left left_now reads reads_now taken taken_now puts puts_now. ⊥
EndsAs shard endings.Spent = EndsSteps shard steps.Spent

-- what has become of a command with these words that ends so, before its last line
abbrev pub Performs : List (List ℕ) → Option Ending → Option History → Option History → Option (List ℕ) → Option (List ℕ) → ℕ → ℕ →
    Option (List ℕ) → Option (List ℕ) → ℕ → ℕ → Type 0
Performs words None told told_now left left_now reads reads_now taken taken_now puts puts_now = NoCommand words × (taken_now ≡ taken)
Performs words (Some endings.Memory) told told_now left left_now reads reads_now taken taken_now puts puts_now = ⊤
Performs words (Some ending) told told_now left left_now reads reads_now taken taken_now puts puts_now =
    Serves words (λ shard. EndsRun shard ending told told_now left left_now reads reads_now taken taken_now puts puts_now)
    (λ shard. EndsAs shard ending told told_now left left_now reads reads_now taken taken_now puts puts_now)

-- before any command was executed, the store is as it was
abbrev pub Spares : {S : Type 0} → Option Ending → S → S → Type 0
Spares None store store_now = store_now ≡ store
Spares (Some ending) store store_now = SparesRun ending store store_now
