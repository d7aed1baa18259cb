-- What the entries and the text of a schedule are. Entries go newest first.
use Rattle.std.specs.Prelude.{◌≡◌, ℕ, ◌+◌, ◌≤◌, Option, Result, Ok, Err, List, [], ◌∷◌, ◌++◌, length}
use Rattle.std.specs.List.{AllByRecursion}
use Rattle.update_core.specs.declared.updates.Update.{Update}
use Rattle.store_core.specs.declared.shards.ShardId.{ShardId}
use Rattle.store_core.specs.declared.entries.Entry.{Entry}
use Rattle.store_core.specs.Stores.{Stored}
use Rattle.feed_text.specs.Streams.{Gains}
use Rattle.feed_text.specs.declared.limits.TheConstants.{MAX_COMMANDS}
use Rattle.step_text.specs.declared.step_lines.StepLine.{StepLine}
use Rattle.step_text.specs.declared.schedules.Schedule.{Schedule}
use Rattle.step_text.specs.declared.counts.TheConstants.{MAX_POLLS}
use Rattle.step_run.specs.declared.heard.Heard.{Heard}
use Rattle.step_run.specs.declared.step_faults.StepFault.{StepFault}
use Rattle.step_run.specs.Faults.{FailedBy}
use Rattle.step_run.specs.Lines.{Does, Sitting, heard_text, made_of, polls_of}

-- The lines in turn: the entries that have come are those of each, and the text is what each brings.
abbrev pub LinesOf : ShardId → List (List ℕ) → List StepLine → Sitting → Sitting → List ℕ → List Update → Stored → List Entry → List Entry →
    Type 0
LinesOf shard names [] s t text list start es now = (t ≡ s) × (text ≡ []) × (now ≡ es)
LinesOf shard names (line ∷ more) s t text list start es now =
    (mid : Sitting) × (heard : Heard) × (between : List Entry) × (rest : List ℕ) × Does shard (length names) line s mid heard list start es between
    × LinesOf shard names more mid t rest list start between now × (text ≡ heard_text names heard ++ rest)

-- nobody is there
abbrev pub nobody : Sitting
nobody = record { clients = []; moment = 0 }

-- The entries that have come since are those of a schedule's lines in turn, and this is their text.
abbrev pub StepsOf : ShardId → Schedule → List ℕ → List Update → Stored → List Entry → List Entry → Type 0
StepsOf shard schedule text list start es now =
    (last : Sitting) × LinesOf shard schedule.names schedule.lines nobody last text list start es now

-- the sink has gained the text of the schedule
abbrev pub Writes : ShardId → Schedule → Option (List ℕ) → Option (List ℕ) → List Update → Stored → List Entry → List Entry → Type 0
Writes shard schedule taken taken_now list start es now =
    (text : List ℕ) × Gains taken taken_now text × StepsOf shard schedule text list start es now

-- the same where it may have failed
abbrev pub ExecutesTo : ShardId → Schedule → Option (List ℕ) → Option (List ℕ) → Result Unit StepFault → List Update → Stored → List Entry →
    List Entry → Type 0
ExecutesTo shard schedule taken taken_now (Ok done) list start es now = Writes shard schedule taken taken_now list start es now
ExecutesTo shard schedule taken taken_now (Err fault) list start es now = FailedBy shard fault start es now

-- how many clients these lines make
abbrev pub made_among : List StepLine → ℕ
made_among [] = 0
made_among (line ∷ lines) = made_of line + made_among lines

-- A schedule has a name for each client that it makes, no more lines than it may have, and no line asks for more polls than one may.
pub record IsShort (schedule : Schedule) : Type 0 where
  pub named : made_among schedule.lines ≤ length schedule.names
  pub few : length schedule.lines ≤ MAX_COMMANDS
  pub each : AllByRecursion (λ line. polls_of line ≤ MAX_POLLS) schedule.lines
