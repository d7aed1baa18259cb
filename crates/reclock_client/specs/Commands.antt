-- The commands of an operator, made of commands of its inner machines: what follows each of these, by what it is answered.
use Rattle.std.specs.Prelude.{⊤, ℕ, Bool, true, false, if◌then◌else◌, Option, Some, None, List, [], nat_le}
use Rattle.update_core.specs.declared.rows.Row.{Row}
use Rattle.update_core.specs.declared.updates.Update.{Update}
use Rattle.update_core.specs.Frontiers.{after, covers, is_at}
use Rattle.history_core.specs.declared.read_answers.ReadAnswer.{ReadAnswer}
use Rattle.history_core.specs.declared.read_answers.ReadAnswer.TheVariants as reads
use Rattle.history_core.specs.declared.write_answers.WriteAnswer.{WriteAnswer}
use Rattle.history_core.specs.declared.write_answers.WriteAnswer.TheVariants as writes
use Rattle.load_core.specs.declared.damages.Damage.TheVariants as damages
use Rattle.load_core.specs.declared.polls.Poll.{Poll}
use Rattle.load_core.specs.declared.polls.Poll.TheVariants as polls
use Rattle.remap_core.specs.Offsets.{unset}
use Rattle.remap_core.specs.Extending.{last_time, reached, rows_at}
use Rattle.reclock_client.specs.declared.clock_answers.ClockAnswer.{ClockAnswer}
use Rattle.reclock_client.specs.declared.clock_answers.ClockAnswer.TheVariants as clocks
use Rattle.reclock_client.specs.declared.courses.Course.{Course}
use Rattle.reclock_client.specs.declared.errands.Errand.{Errand}
use Rattle.reclock_client.specs.declared.errands.Errand.TheVariants as errands
use Rattle.reclock_client.specs.declared.intakes.Intake.TheVariants as intakes
use Rattle.reclock_client.specs.declared.steps.Step.{Step}
use Rattle.reclock_client.specs.declared.steps.Step.TheVariants as steps
use Rattle.reclock_client.specs.Reading.{foreign_time, in_time}

-- what follows: the course from then on, and what the poll comes to
abbrev pub Next : Type 0
Next = Course × Poll ClockAnswer

-- the command goes on by a step
abbrev pub goes : Course → Step → Next
goes c s = (record c { step = s }, polls.More)

-- the command is answered
abbrev pub ends : Course → ClockAnswer → Next
ends c answer = (record c { errand = None }, polls.Done answer)

-- the same, and a member is gone
abbrev pub ends_gone : Course → ClockAnswer → Next
ends_gone c answer = (record c { errand = None; joined = false }, polls.Done answer)

-- an inner command has an answer that isn't one of its own
abbrev pub strange : Course → Next
strange c = (record c { errand = None; joined = false }, polls.Damaged (damages.Member 0 0))

-- ---- what comes once the remap shard has been read

-- Lost exactly where the upper is Closed or above the time
abbrev pub minted_at : Course → ℕ → Option ℕ → Next
minted_at c t None = ends c (clocks.Lost None)
minted_at c t (Some u) = if nat_le u t then goes c (steps.AppendRemap u) else ends c (clocks.Lost (Some u))

abbrev pub read_all : Course → Option Errand → Next
read_all c (Some errands.Sync) = ends c (clocks.Synced c.synced)
read_all c (Some (errands.Mint t seen)) = minted_at c t c.synced
read_all c other = strange c

-- a listen that stands goes on; else the content comes first
abbrev pub reading_step : Course → Step
reading_step c = if c.listens then steps.Next else steps.Snapshot

-- ---- publishing

-- Published exactly where the data shard's upper isn't below the synced one; else the rows between them are appended
abbrev pub published_from : Course → Option ℕ → Next
published_from c None = ends c (clocks.Published c.synced)
published_from c (Some e) = if covers c.synced e then goes c (steps.AppendData e) else ends c (clocks.Published c.synced)

-- ---- after a command of the remap shard's writer

abbrev pub after_join_remap : Course → Option Errand → WriteAnswer → Next
after_join_remap c (Some errands.Open) (writes.Opened member version) = goes c steps.JoinReader
after_join_remap c (Some (errands.Mint t seen)) (writes.Opened member version) = goes c (reading_step c)
after_join_remap c errand (writes.MembersFull version) = ends_gone c (clocks.MembersFull version)
after_join_remap c errand other = strange c

-- a mismatch shows another's commit: the remap shard is read again
abbrev pub after_append_remap : Course → Option Errand → WriteAnswer → Next
after_append_remap c (Some (errands.Mint t seen)) writes.Ok = ends c (clocks.Minted t)
after_append_remap c (Some (errands.Mint t seen)) (writes.Mismatch current) = goes c (reading_step c)
after_append_remap c errand (writes.Heavy weight) = ends c (clocks.Heavy weight)
after_append_remap c errand other = strange c

-- it leaves at a close, or because its tokens are spent
abbrev pub after_leave_remap : Course → Option Errand → WriteAnswer → Next
after_leave_remap c (Some errands.Close) (writes.Closed version) = goes c steps.LeaveReader
after_leave_remap c (Some (errands.Mint t seen)) (writes.Closed version) = goes c steps.JoinRemap
after_leave_remap c errand other = strange c

abbrev pub after_remap_writer : Course → Step → WriteAnswer → Next
after_remap_writer c steps.JoinRemap answer = after_join_remap c c.errand answer
after_remap_writer c (steps.AppendRemap from) answer = after_append_remap c c.errand answer
after_remap_writer c steps.LeaveRemap answer = after_leave_remap c c.errand answer
after_remap_writer c other answer = strange c

-- ---- after a command of the data shard's writer

abbrev pub after_join_data : Course → Option Errand → WriteAnswer → Next
after_join_data c (Some errands.Open) (writes.Opened member version) = (record c { errand = None; joined = true }, polls.Done clocks.Opened)
after_join_data c (Some (errands.Publish rows)) (writes.Opened member version) = goes c steps.Look
after_join_data c errand (writes.MembersFull version) = ends_gone c (clocks.MembersFull version)
after_join_data c errand other = strange c

-- a mismatch tells the upper
abbrev pub after_append_data : Course → WriteAnswer → Next
after_append_data c writes.Ok = ends c (clocks.Published c.synced)
after_append_data c (writes.Mismatch current) = published_from c current
after_append_data c (writes.Heavy weight) = ends c (clocks.Heavy weight)
after_append_data c other = strange c

abbrev pub after_leave_data : Course → Option Errand → WriteAnswer → Next
after_leave_data c (Some errands.Close) (writes.Closed version) = ends_gone c clocks.Closed
after_leave_data c (Some (errands.Publish rows)) (writes.Closed version) = goes c steps.JoinData
after_leave_data c errand other = strange c

abbrev pub after_data_writer : Course → Step → WriteAnswer → Next
after_data_writer c steps.JoinData answer = after_join_data c c.errand answer
after_data_writer c (steps.AppendData from) answer = after_append_data c answer
after_data_writer c steps.LeaveData answer = after_leave_data c c.errand answer
after_data_writer c other answer = strange c

-- ---- after a command of the reader

-- nothing is known
abbrev pub forgotten : Course → Course
forgotten c = record c { bindings = []; intake = intakes.Nothing; synced = Some 0; listens = false }

abbrev pub after_join_reader : Course → ReadAnswer → Next
after_join_reader c (reads.Opened member version since) = goes (forgotten (record c { since = since })) steps.JoinData
after_join_reader c (reads.MembersFull version) = ends_gone c (clocks.MembersFull version)
after_join_reader c other = strange c

-- the content at the reader's since, unless a row of it is foreign
abbrev pub with_content : Course → List Row → Option ℕ → Next
with_content c rows None = (
  record c {
    bindings = [];
    intake = intakes.Content rows;
    synced = after c.since;
    listens = false;
    step = steps.Listen;
  },
  polls.More,
)
with_content c rows (Some t) = ends (record c { listens = false }) (clocks.Foreign t)

-- The upper isn't past the reader's since. What lies below it can't be read any more; where the upper is 0 there is nothing.
abbrev pub nothing_yet : Course → Next
nothing_yet c = read_all (forgotten c) c.errand

abbrev pub with_late : Course → Option ℕ → Next
with_late c upper = if is_at upper 0 then nothing_yet c else ends c (clocks.Early c.since)

abbrev pub after_snapshot : Course → ReadAnswer → Next
after_snapshot c (reads.Rows rows) = with_content c rows (foreign_time unset (rows_at c.since rows))
after_snapshot c (reads.Late upper) = with_late c upper
after_snapshot c (reads.Early since) = ends c (clocks.Early since)
after_snapshot c (reads.Expired version) = ends_gone c (clocks.Expired version)
after_snapshot c other = strange c

-- the rows of a step, unless one is foreign
abbrev pub with_changes : Course → List Update → Option ℕ → Option ℕ → Next
with_changes c rows to None = (record c { intake = intakes.Changes rows 0; synced = to; listens = true; step = steps.Next }, polls.More)
with_changes c rows to (Some t) = ends (record c { listens = false }) (clocks.Foreign t)

abbrev pub with_step : Course → List Update → Option ℕ → Next
with_step c rows to =
    if in_time (last_time c.bindings) rows then with_changes c rows to (foreign_time (reached c.bindings) rows) else strange c

abbrev pub with_listen : Course → Course
with_listen c = record c { listens = true }

abbrev pub after_listen : Course → ReadAnswer → Next
after_listen c (reads.Step from to rows) = with_step c rows to
after_listen c (reads.Quiet upper) = read_all (with_listen c) c.errand
after_listen c reads.Ended = read_all (with_listen c) c.errand
after_listen c (reads.Early since) = ends (record c { listens = false }) (clocks.Early since)
after_listen c (reads.Expired version) = ends_gone c (clocks.Expired version)
after_listen c other = strange c

abbrev pub after_leave_reader : Course → ReadAnswer → Next
after_leave_reader c (reads.Closed version) = goes c steps.LeaveData
after_leave_reader c other = strange c

abbrev pub after_reader : Course → Step → ReadAnswer → Next
after_reader c steps.JoinReader answer = after_join_reader c answer
after_reader c steps.Snapshot answer = after_snapshot c answer
after_reader c steps.Listen answer = after_listen c answer
after_reader c steps.Next answer = after_listen c answer
after_reader c steps.LeaveReader answer = after_leave_reader c answer
after_reader c other answer = strange c

-- ---- whether a member is gone where a command ends without an answer

-- the step changes a member
abbrev pub changes_member : Step → Bool
changes_member steps.JoinRemap = true
changes_member steps.JoinReader = true
changes_member steps.JoinData = true
changes_member steps.LeaveRemap = true
changes_member steps.LeaveReader = true
changes_member steps.LeaveData = true
changes_member other = false

-- the command ends so
abbrev pub broken : Course → Course
broken c = record c { errand = None; joined = if changes_member c.step then false else c.joined }

-- what an inner poll comes to, where an answer comes to this
abbrev pub after_poll : {A : Type 0} → (A → Next) → Course → Poll A → Next
after_poll answered c polls.Busy = (c, polls.Busy)
after_poll answered c polls.More = (c, polls.More)
after_poll answered c polls.Fault = (c, polls.Fault)
after_poll answered c polls.Spent = (broken c, polls.Spent)
after_poll answered c (polls.Damaged damage) = (broken c, polls.Damaged damage)
after_poll answered c (polls.Done answer) = answered answer

-- an answer takes the command on, or ends it
abbrev pub IsForth : Poll ClockAnswer → Type 0
IsForth polls.Busy = ⊥
IsForth polls.Fault = ⊥
IsForth _ = ⊤

-- this holds where the inner command is answered
abbrev pub IfDone : {A : Type 0} → Poll A → Type 0 → Type 0
IfDone (polls.Done answer) P = P
IfDone _ P = ⊤
