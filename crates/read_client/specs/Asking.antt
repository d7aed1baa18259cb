-- What a snapshot or a step of a listen makes of a state.
use Rattle.std.specs.Prelude.{⊤, ◌≡◌, ◌⊎◌, ℕ, Option, Some, None, List, [], ◌∷◌}
use Rattle.std.specs.List.{AllByRecursion}
use Rattle.update_core.specs.declared.updates.Update.{Update}
use Rattle.update_core.specs.Updates.{slice_of, sum_of}
use Rattle.store_core.specs.declared.part_keys.PartKey.{PartKey}
use Rattle.store_core.specs.declared.shards.ShardId.{ShardId}
use Rattle.store_core.specs.Stores.{Stored}
use Rattle.state_core.specs.declared.kinds.Kind.TheVariants.{Reader as AsReader}
use Rattle.state_core.specs.Lists.{Among}
use Rattle.update_core.specs.Collections.{SnapshotAnswer, ListenAnswer, content, early, late, behind, ended, quiet, step}
use Rattle.update_core.specs.Collections.{snapshot_answer, listen_answer}
use Rattle.state_core.specs.States.{ShardState, is_reader}
use Rattle.history_core.specs.declared.asked.Asked.{Asked}
use Rattle.history_core.specs.declared.asked.Asked.TheVariants as asks
use Rattle.history_core.specs.declared.read_answers.ReadAnswer.{ReadAnswer}
use Rattle.history_core.specs.declared.read_answers.ReadAnswer.TheVariants as answers
use Rattle.history_core.specs.Discipline.{IsGot}
use Rattle.history_core.specs.Legal.{LegalOfReader, LegalStep, PartsGot, collection_in, snapshot_keys, step_keys}
use Rattle.history_core.specs.Placing.{IsAnsweredScan, Placed, reply_at}
use Rattle.history_core.specs.Readings.{rows_in}
use Rattle.read_client.specs.declared.questions.Question.{Question}
use Rattle.read_client.specs.declared.questions.Question.TheVariants as questions
use Rattle.read_machine.specs.declared.looks.Look.{Look}
use Rattle.read_machine.specs.declared.looks.Look.TheVariants as looks
use Rattle.read_machine.specs.Questions.{Questions}

-- the plain collection's answer, or the parts that are read for it
abbrev pub content_look : ℕ → ShardState → SnapshotAnswer → Look ReadAnswer
content_look t s (early since) = looks.Answer (answers.Early since)
content_look t s (late upper) = looks.Answer (answers.Late upper)
content_look t s (content rows) = looks.Parts (snapshot_keys t s)

abbrev pub step_look : Option ℕ → ShardState → ListenAnswer → Look ReadAnswer
step_look f s (behind since) = looks.Answer (answers.Early since)
step_look f s ended = looks.Answer answers.Ended
step_look f s (quiet upper) = looks.Answer (answers.Quiet upper)
step_look f s (step rows to) = looks.Parts (step_keys f s)

-- what a state says to a question; which answer it is doesn't depend on the updates
abbrev pub asks_of : Question → ShardState → Look ReadAnswer
asks_of (questions.Content t) s = content_look t s (snapshot_answer (collection_in [] s) t)
asks_of (questions.Step f) s = step_look f s (listen_answer (collection_in [] s) f)

-- the answer from rows that were got
abbrev pub rows_answer : Question → ShardState → List Update → ReadAnswer
rows_answer (questions.Content t) s rows = answers.Rows (sum_of rows t)
rows_answer (questions.Step f) s rows = answers.Step f s.upper (slice_of rows f s.upper)

-- ---- when an answer is legal

-- the entry is a Get, answered with bytes that are a part in which the row stands
abbrev pub GetsRow : Stored → Update → Placed → Type 0
GetsRow start row p =
    (key : PartKey) × (bytes : List ℕ) × (part : List Update) × IsGot key bytes p.entry.call (reply_at start p) ×
    (rows_in bytes ≡ Some part) ×
    Among (λ other. other ≡ row) part

-- since the last answered Scan a Get was answered with bytes that are a part in which the row stands
abbrev pub RowGot : Stored → ShardId → List Placed → Update → Type 0
RowGot start shard [] row = ⊥
RowGot start shard (p ∷ ps) row = (¬ IsAnsweredScan shard p) × (GetsRow start row p ⊎ RowGot start shard ps row)

-- an answer to a question of a member is legal
abbrev pub QuestionLegal : Question → ShardId → ℕ → Stored → List Placed → List Update → ReadAnswer → Type 0
QuestionLegal (questions.Content t) shard member start ps list answer = LegalOfReader list start shard member None ps
    (asks.Snapshot t) answer
QuestionLegal (questions.Step f) shard member start ps list answer = LegalStep list start shard member ps f answer

-- and where it has rows, each part was got, and each row of a step stands in one
abbrev pub QuestionReads : Question → ShardId → Stored → List Placed → ReadAnswer → Type 0
QuestionReads (questions.Content t) shard start ps (answers.Rows rows) = PartsGot start shard (snapshot_keys t) ps
QuestionReads (questions.Step f) shard start ps (answers.Step from to rows) =
    PartsGot start shard (step_keys from) ps × AllByRecursion (RowGot start shard ps) rows
QuestionReads q shard start ps answer = ⊤

-- a snapshot or a step, as a question
abbrev pub asking : Questions Question ReadAnswer
asking = record {
  kind = AsReader;
  takes = is_reader;
  look = asks_of;
  answer = rows_answer;
  expired = λ q version. answers.Expired version;
  Legal = λ q shard member start ps list answer. QuestionLegal q shard member start ps list answer × QuestionReads q shard start
      ps answer;
}

-- ---- what a command asks

-- a step from a listen's frontier
abbrev pub step_question : Option (Option ℕ) → Option Question
step_question None = None
step_question (Some f) = Some (questions.Step f)

-- what a command asks of the collection, where it reads it
abbrev pub question_of : Option Asked → Option (Option ℕ) → Option Question
question_of (Some (asks.Snapshot t)) listen = Some (questions.Content t)
question_of (Some (asks.Listen as_of)) listen = step_question listen
question_of (Some asks.Next) listen = step_question listen
question_of _ listen = None
