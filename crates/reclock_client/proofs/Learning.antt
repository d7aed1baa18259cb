-- What the table of answers makes of what an operator knows: all but a content and a step leave it as it was, or nothing is known.
use Rattle.std.proofs.Common.{◌≡◌, ℕ, Bool, true, false, cond, Option, Some, None, List, [], refl}
use Rattle.std.specs.Prelude.{⊤, IfNone, IsSome, nat_le}
use Rattle.update_core.specs.declared.rows.Row.{Row}
use Rattle.update_core.specs.declared.updates.Update.{Update}
use Rattle.update_core.specs.Frontiers.{covers, is_at}
use Rattle.history_core.specs.declared.read_answers.ReadAnswer.{ReadAnswer}
use Rattle.history_core.specs.declared.read_answers.ReadAnswer.TheVariants as reads
use Rattle.history_core.specs.declared.write_answers.WriteAnswer.{WriteAnswer}
use Rattle.history_core.specs.declared.write_answers.WriteAnswer.TheVariants as writes
use Rattle.load_core.specs.declared.polls.Poll.{Poll}
use Rattle.load_core.specs.declared.polls.Poll.TheVariants as polls
use Rattle.remap_core.specs.Extending.{last_time, reached, rows_at}
use Rattle.remap_core.specs.Offsets.{unset}
use Rattle.reclock_client.specs.declared.clock_answers.ClockAnswer.TheVariants as clocks
use Rattle.reclock_client.specs.declared.courses.Course.{Course}
use Rattle.reclock_client.specs.declared.errands.Errand.{Errand}
use Rattle.reclock_client.specs.declared.errands.Errand.TheVariants as errands
use Rattle.reclock_client.specs.declared.intakes.Intake.TheVariants as intakes
use Rattle.reclock_client.specs.declared.steps.Step.{Step}
use Rattle.reclock_client.specs.declared.steps.Step.TheVariants as steps
use Rattle.reclock_client.specs.Commands.{Next, after_append_data, after_append_remap, after_data_writer, after_join_data, after_join_reader}
use Rattle.reclock_client.specs.Commands.{after_join_remap, after_leave_data, after_leave_reader, after_leave_remap, after_listen, after_poll}
use Rattle.reclock_client.specs.Commands.{after_reader, after_remap_writer, after_snapshot, ends, forgotten, goes, minted_at, nothing_yet}
use Rattle.reclock_client.specs.Commands.{published_from, read_all, strange, with_changes, with_content, with_late, with_listen, with_step}
use Rattle.reclock_client.specs.Known.{Knowledge, knowledge}
use Rattle.reclock_client.specs.Reading.{foreign_time, in_time}

-- all rows that were read are bound where no command is open, and what is known has K
abbrev pub Holds : (Knowledge → Bool → Type 0) → Course → Type 0
Holds K c = IfNone c.errand (c.intake ≡ intakes.Nothing) × K (knowledge c) c.listens

pub busy_not : (P : Type 0) (errand : Option Errand) → IsSome errand → IfNone errand P
busy_not P None busy = absurd (let bad : false ≡ true = busy in cc)
busy_not P (Some errand) busy = tt

-- ---- what leaves it as it was

module _ (K : Knowledge → Bool → Type 0) (c : Course) (busy : IsSome c.errand) (taken : c.intake ≡ intakes.Nothing)
    (over : K (knowledge c) c.listens) where
  on : (step : Step) → Holds K (goes c step).0
  on step = (busy_not _ c.errand busy, over)

  pub polled_holds : {A : Type 0} (answered : A → Next) (p : Poll A) → ((answer : A) → p ≡ polls.Done answer → Holds K (answered answer).0) →
      Holds K (after_poll answered c p).0
  polled_holds answered polls.Busy f = (busy_not _ c.errand busy, over)
  polled_holds answered polls.More f = (busy_not _ c.errand busy, over)
  polled_holds answered polls.Fault f = (busy_not _ c.errand busy, over)
  polled_holds answered polls.Spent f = (taken, over)
  polled_holds answered (polls.Damaged damage) f = (taken, over)
  polled_holds answered (polls.Done answer) f = f answer refl

  join_remap_holds : (errand : Option Errand) (answer : WriteAnswer) → Holds K (after_join_remap c errand answer).0
  join_remap_holds (Some errands.Open) (writes.Opened member version) = on steps.JoinReader
  join_remap_holds (Some (errands.Mint t seen)) (writes.Opened member version) = (busy_not _ c.errand busy, over)
  join_remap_holds errand (writes.MembersFull version) = (taken, over)
  join_remap_holds errand other = (taken, over)

  append_remap_holds : (errand : Option Errand) (answer : WriteAnswer) → Holds K (after_append_remap c errand answer).0
  append_remap_holds (Some (errands.Mint t seen)) writes.Ok = (taken, over)
  append_remap_holds (Some (errands.Mint t seen)) (writes.Mismatch current) = (busy_not _ c.errand busy, over)
  append_remap_holds errand (writes.Heavy weight) = (taken, over)
  append_remap_holds errand other = (taken, over)

  leave_remap_holds : (errand : Option Errand) (answer : WriteAnswer) → Holds K (after_leave_remap c errand answer).0
  leave_remap_holds (Some errands.Close) (writes.Closed version) = on steps.LeaveReader
  leave_remap_holds (Some (errands.Mint t seen)) (writes.Closed version) = on steps.JoinRemap
  leave_remap_holds errand other = (taken, over)

  pub remap_holds : (step : Step) (answer : WriteAnswer) → Holds K (after_remap_writer c step answer).0
  remap_holds steps.JoinRemap answer = join_remap_holds c.errand answer
  remap_holds (steps.AppendRemap from) answer = append_remap_holds c.errand answer
  remap_holds steps.LeaveRemap answer = leave_remap_holds c.errand answer
  remap_holds other answer = (taken, over)

  pub published_holds : (upper : Option ℕ) → Holds K (published_from c upper).0
  published_holds None = (taken, over)
  published_holds (Some from) = by (covers c.synced from)
    where
      by : (b : Bool) → Holds K (cond b (goes c (steps.AppendData from)) (ends c (clocks.Published c.synced))).0
      by true = on (steps.AppendData from)
      by false = (taken, over)

  join_data_holds : (errand : Option Errand) (answer : WriteAnswer) → Holds K (after_join_data c errand answer).0
  join_data_holds (Some errands.Open) (writes.Opened member version) = (taken, over)
  join_data_holds (Some (errands.Publish rows)) (writes.Opened member version) = on steps.Look
  join_data_holds errand (writes.MembersFull version) = (taken, over)
  join_data_holds errand other = (taken, over)

  append_data_holds : (answer : WriteAnswer) → Holds K (after_append_data c answer).0
  append_data_holds writes.Ok = (taken, over)
  append_data_holds (writes.Mismatch current) = published_holds current
  append_data_holds (writes.Heavy weight) = (taken, over)
  append_data_holds other = (taken, over)

  leave_data_holds : (errand : Option Errand) (answer : WriteAnswer) → Holds K (after_leave_data c errand answer).0
  leave_data_holds (Some errands.Close) (writes.Closed version) = (taken, over)
  leave_data_holds (Some (errands.Publish rows)) (writes.Closed version) = on steps.JoinData
  leave_data_holds errand other = (taken, over)

  pub data_holds : (step : Step) (answer : WriteAnswer) → Holds K (after_data_writer c step answer).0
  data_holds steps.JoinData answer = join_data_holds c.errand answer
  data_holds (steps.AppendData from) answer = append_data_holds answer
  data_holds steps.LeaveData answer = leave_data_holds c.errand answer
  data_holds other answer = (taken, over)

  minted_holds : (t : ℕ) (upper : Option ℕ) → Holds K (minted_at c t upper).0
  minted_holds t None = (taken, over)
  minted_holds t (Some u) = by (nat_le u t)
    where
      by : (b : Bool) → Holds K (cond b (goes c (steps.AppendRemap u)) (ends c (clocks.Lost (Some u)))).0
      by true = on (steps.AppendRemap u)
      by false = (taken, over)

  read_holds : (errand : Option Errand) → Holds K (read_all c errand).0
  read_holds (Some errands.Sync) = (taken, over)
  read_holds (Some (errands.Mint t seen)) = minted_holds t c.synced
  read_holds other = (taken, over)

-- ---- the reader

-- a step of a listen
abbrev pub IsListening : Step → Type 0
IsListening steps.Listen = ⊤
IsListening steps.Next = ⊤
IsListening other = ⊥

-- what has K, whatever the reader answers: nothing, and what a content and a step of this kind make known
pub record Learns (K : Knowledge → Bool → Type 0) (T : Step → ReadAnswer → Type 0) (c : Course) : Type 0 where
  pub quiet : (k : Knowledge) (b : Bool) → K k b → K k false
  pub blank : (since : ℕ) → K (record { since = since; bindings = []; synced = Some 0 }) false
  pub content : (rows : List Row) → T steps.Snapshot (reads.Rows rows) → foreign_time unset (rows_at c.since rows) ≡ None →
      K (knowledge (with_content c rows None).0) false
  -- at a step of a listen
  pub listened : (step : Step) → step ≡ c.step → IsListening step → K (knowledge c) true
  pub changes : (step : Step) (from to : Option ℕ) (rows : List Update) → step ≡ c.step → IsListening step → T step (reads.Step from to rows) →
      in_time (last_time c.bindings) rows ≡ true → foreign_time (reached c.bindings) rows ≡ None →
      K (knowledge (with_changes c rows to None).0) true

module _ (K : Knowledge → Bool → Type 0) (T : Step → ReadAnswer → Type 0) (c : Course) (busy : IsSome c.errand)
    (taken : c.intake ≡ intakes.Nothing) (over : K (knowledge c) c.listens) (learns : Learns K T c) where
  join_reader_holds : (answer : ReadAnswer) → Holds K (after_join_reader c answer).0
  join_reader_holds (reads.Opened member version since) = (busy_not _ c.errand busy, learns.blank since)
  join_reader_holds (reads.MembersFull version) = (taken, over)
  join_reader_holds other = (taken, over)

  content_holds : (rows : List Row) → T steps.Snapshot (reads.Rows rows) → Holds K (after_snapshot c (reads.Rows rows)).0
  content_holds rows told = by (foreign_time unset (rows_at c.since rows)) refl
    where
      by : (f : Option ℕ) → foreign_time unset (rows_at c.since rows) ≡ f → Holds K (with_content c rows f).0
      by None e = (busy_not _ c.errand busy, learns.content rows told e)
      by (Some t) e = (taken, learns.quiet (knowledge c) c.listens over)

  late_holds : (upper : Option ℕ) → Holds K (with_late c upper).0
  late_holds upper = by (is_at upper 0)
    where
      by : (b : Bool) → Holds K (cond b (nothing_yet c) (ends c (clocks.Early c.since))).0
      by true = read_holds K (forgotten c) busy refl (learns.blank c.since) c.errand
      by false = (taken, over)

  snapshot_holds : (answer : ReadAnswer) → T steps.Snapshot answer → Holds K (after_snapshot c answer).0
  snapshot_holds (reads.Rows rows) told = content_holds rows told
  snapshot_holds (reads.Late upper) told = late_holds upper
  snapshot_holds (reads.Early since) told = (taken, over)
  snapshot_holds (reads.Expired version) told = (taken, over)
  snapshot_holds other told = (taken, over)

  changes_hold : (step : Step) (from to : Option ℕ) (rows : List Update) → step ≡ c.step → IsListening step → T step (reads.Step from to rows) →
      Holds K (with_step c rows to).0
  changes_hold step from to rows at is told = by (in_time (last_time c.bindings) rows) refl
    where
      pick : in_time (last_time c.bindings) rows ≡ true → (f : Option ℕ) → foreign_time (reached c.bindings) rows ≡ f →
          Holds K (with_changes c rows to f).0
      pick order None e = (busy_not _ c.errand busy, learns.changes step from to rows at is told order e)
      pick order (Some t) e = (taken, learns.quiet (knowledge c) c.listens over)

      by : (b : Bool) → in_time (last_time c.bindings) rows ≡ b →
          Holds K (cond b (with_changes c rows to (foreign_time (reached c.bindings) rows)) (strange c)).0
      by true order = pick order (foreign_time (reached c.bindings) rows) refl
      by false order = (taken, over)

  listen_holds : (step : Step) (answer : ReadAnswer) → step ≡ c.step → IsListening step → T step answer → Holds K (after_listen c answer).0
  listen_holds step (reads.Step from to rows) at is told = changes_hold step from to rows at is told
  listen_holds step (reads.Quiet upper) at is told = read_holds K (with_listen c) busy taken (learns.listened step at is) c.errand
  listen_holds step reads.Ended at is told = read_holds K (with_listen c) busy taken (learns.listened step at is) c.errand
  listen_holds step (reads.Early since) at is told = (taken, learns.quiet (knowledge c) c.listens over)
  listen_holds step (reads.Expired version) at is told = (taken, over)
  listen_holds step other at is told = (taken, over)

  leave_reader_holds : (answer : ReadAnswer) → Holds K (after_leave_reader c answer).0
  leave_reader_holds (reads.Closed version) = (busy_not _ c.errand busy, over)
  leave_reader_holds other = (taken, over)

  pub reader_holds : (step : Step) (answer : ReadAnswer) → step ≡ c.step → T step answer → Holds K (after_reader c step answer).0
  reader_holds steps.JoinReader answer at told = join_reader_holds answer
  reader_holds steps.Snapshot answer at told = snapshot_holds answer told
  reader_holds steps.Listen answer at told = listen_holds steps.Listen answer at tt told
  reader_holds steps.Next answer at told = listen_holds steps.Next answer at tt told
  reader_holds steps.LeaveReader answer at told = leave_reader_holds answer
  reader_holds other answer at told = (taken, over)
