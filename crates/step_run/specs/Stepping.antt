-- What a line that has a client polled comes to. Entries go newest first.
use Rattle.std.specs.Prelude.{⊤, ◌≡◌, ℕ, ◌+◌, ◌≤◌, Option, Some, None, Result, Ok, Err, List, [], ◌∷◌, ◌++◌, length}
use Rattle.std.specs.List.{AllByRecursion}
use Rattle.update_core.specs.declared.updates.Update.{Update}
use Rattle.store_core.specs.declared.calls.Call.{Call}
use Rattle.store_core.specs.declared.replies.Reply.{Reply}
use Rattle.store_core.specs.declared.replies.Reply.TheVariants as replies
use Rattle.store_core.specs.declared.entries.Entry.{Entry}
use Rattle.store_core.specs.Stores.{Stored}
use Rattle.store_core.specs.Histories.{History, faults_of, reply}
use Rattle.store_core.specs.Newest.{replay_back}
use Rattle.load_core.specs.Fronts.{Backwards, WhereLawful}
use Rattle.load_core.specs.declared.polls.Poll.{Poll}
use Rattle.load_core.specs.declared.polls.Poll.TheVariants as polls
use Rattle.machine_core.specs.Machines.{Ending, Keeps, Words, shard_of}
use Rattle.step_run.specs.declared.step_faults.StepFault.{StepFault}
use Rattle.step_run.specs.declared.stepping.Stepped.{Stepped}
use Rattle.step_run.specs.Faults.{FailedBy}

-- how many of these entries failed
abbrev pub failed_among : List Entry → ℕ
failed_among [] = 0
failed_among (e ∷ es) = failed_among es + faults_of e.outcome

-- each of these entries has done what a poll of this command does
abbrev pub DidEach : {M A : Type 0} → (W : Words M A) → W.Kept → Stored → List Entry → List Entry → Type 0
DidEach W k start [] es = ⊤
DidEach {A = A} W k start (e ∷ more) es =
    ((poll : Poll A) × W.Effect k e.call (reply (replay_back start (more ++ es)) e) poll) × DidEach W k start more es

-- So many calls of a client have come, and nothing else: each is one that the command makes, and so many failed.
pub record Made {M A : Type 0} (W : Words M A) (client : ℕ) (k : W.Kept) (made failed : ℕ) (start : Stored) (es now : List Entry) : Type 0 where
  pub more : List Entry
  pub split : now ≡ more ++ es
  pub of_client : AllByRecursion (λ e. e.client ≡ client) more
  pub as_many : length more ≡ made
  pub failures : failed ≡ failed_among more
  pub did : DidEach W k start more es

-- a command that has ended made no more calls than its bound
pub record EndsWithin {M A : Type 0} (W : Words M A) (client : ℕ) (k : W.Kept) (new : M) (start : Stored) (now : List Entry)
    (list : List Update) : Type 0 where
  -- the machine before its last call
  pub before : M
  pub same : W.kept before ≡ k
  pub over : W.CostOver W.least client before new start now list

-- With an answer the command has ended, the answer is legal, and the calls were within its bound. Without one it is the same command,
-- open, all polls were made, and there is room for more calls in its bound.
abbrev pub Leaves : {M A : Type 0} → (W : Words M A) → ℕ → ℕ → ℕ → M → M → Option A → Stored → List Entry → List Update → Type 0
Leaves W client polls made m new None start now list =
    (made ≡ polls) × (W.kept new ≡ W.kept m) × W.IsOpen new × W.CostAt W.least client new start now list
Leaves W client polls made m new (Some answer) start now list =
    (made ≤ polls) × W.Ends (W.kept m) answer new × W.Legal client (W.kept m) (W.calls_of new) answer start now list
    × EndsWithin W client (W.kept m) new start now list

-- So many polls of an open command are one call each, and they are fewer only where the command has ended.
pub record Steps {M A : Type 0} (W : Words M A) (client polls : ℕ) (m new : M) (answer : Option A) (failed : ℕ) (list : List Update)
    (start : Stored) (es now : List Entry) : Type 0 where
  pub made : ℕ
  pub calls : Made W client (W.kept m) made failed start es now
  pub counted : W.calls_of new ≡ W.calls_of m + made
  pub leaves : Leaves W client polls made m new answer start now list

-- what polls have come to
abbrev pub StepsTo : {M A : Type 0} → (W : Words M A) → ℕ → ℕ → M → M → Result (Stepped A) StepFault → List Update → Stored → List Entry → List Entry →
    Type 0
StepsTo W client most_polls m new (Ok s) list start es now = Steps W client most_polls m new s.answer s.faults list start es now
StepsTo W client most_polls m new (Err fault) list start es now = FailedBy (shard_of W m) fault start es now

-- only a call that was answered ends a command
abbrev pub EndsAnswered : {M A : Type 0} → Words M A → Type 0
EndsAnswered {A = A} W = (k : W.Kept) (call : Call) (r : Reply) (answer : A) → W.Effect k call r (polls.Done answer) → r ≡ replies.Failed → ⊥

-- an answer leaves no command
abbrev pub EndsIdle : {M A : Type 0} → Words M A → Type 0
EndsIdle {A = A} W = (k : W.Kept) (answer : A) (m : _) → W.Ends k answer m → ¬ W.IsOpen m

-- what holds of each machine that is polled line by line
pub record Laws {M A : Type 0} (W : Words M A) : Type 0 where
  pub keeps : Keeps W
  pub ending : Ending W
  pub answered : EndsAnswered W
  pub idle : EndsIdle W

-- over a front that is told, lawful and from a start that stands for a list, the calls of the open command are within its bound
abbrev pub WithinWhere : {M A : Type 0} → Words M A → ℕ → Option History → M → Type 0
WithinWhere W client front m = WhereLawful (shard_of W m) front (Backwards (W.CostAt W.least client m))
