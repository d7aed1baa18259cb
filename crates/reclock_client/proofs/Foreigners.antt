-- A Foreign answer has its cause among the accepted updates. Entries go newest first.
use Rattle.std.proofs.Common.{◌≡◌, ℕ, ◌+◌, ◌<◌, Bool, true, false, cond, Option, Some, None, List, refl, sym, ap, subst, ◌∙◌, inl, inr}
use Rattle.std.specs.Prelude.{⊤, ◌⊎◌, IsSome, min, nat_le, reverse}
use Rattle.update_core.specs.declared.rows.Row.{Row}
use Rattle.update_core.specs.declared.updates.Update.{Update}
use Rattle.update_core.specs.Frontiers.{covers, is_at}
use Rattle.update_core.specs.Limits.{most}
use Rattle.store_core.specs.declared.entries.Entry.{Entry}
use Rattle.store_core.specs.declared.shards.ShardId.{ShardId}
use Rattle.store_core.specs.Histories.{History}
use Rattle.store_core.specs.Stores.{Stored}
use Rattle.history_core.specs.declared.read_answers.ReadAnswer.{ReadAnswer}
use Rattle.history_core.specs.declared.read_answers.ReadAnswer.TheVariants as reads
use Rattle.history_core.specs.declared.write_answers.WriteAnswer.{WriteAnswer}
use Rattle.history_core.specs.declared.write_answers.WriteAnswer.TheVariants as writes
use Rattle.history_core.specs.Discipline.{Lawful}
use Rattle.history_core.specs.Stands.{StandsFor, accepted}
use Rattle.history_core.proofs.Prefixes.{lawful_back}
use Rattle.load_core.specs.declared.polls.Poll.{Poll}
use Rattle.load_core.specs.declared.polls.Poll.TheVariants as polls
use Rattle.load_core.specs.Fronts.{Backwards, WhereLawful}
use Rattle.machine_core.specs.Machines.{LegalPoll}
use Rattle.read_client.specs.Machining as readers
use Rattle.remap_core.specs.Extending.{last_time, reached, rows_at}
use Rattle.remap_core.specs.Offsets.{unset}
use Rattle.reclock_client.specs.declared.clock_answers.ClockAnswer.{ClockAnswer}
use Rattle.reclock_client.specs.declared.clock_answers.ClockAnswer.TheVariants as clocks
use Rattle.reclock_client.specs.declared.courses.Course.{Course}
use Rattle.reclock_client.specs.declared.errands.Errand.{Errand}
use Rattle.reclock_client.specs.declared.errands.Errand.TheVariants as errands
use Rattle.reclock_client.specs.declared.intakes.Intake.TheVariants as intakes
use Rattle.reclock_client.specs.declared.operators.Operator.{Operator}
use Rattle.reclock_client.specs.declared.steps.Part.{Part}
use Rattle.reclock_client.specs.declared.steps.Part.TheVariants as parts
use Rattle.reclock_client.specs.declared.steps.Step.{Step}
use Rattle.reclock_client.specs.declared.steps.Step.TheVariants as steps
use Rattle.reclock_client.specs.Commands.{Next, after_append_data, after_append_remap, after_data_writer, after_join_data, after_join_reader}
use Rattle.reclock_client.specs.Commands.{after_join_remap, after_leave_data, after_leave_reader, after_leave_remap, after_listen, after_poll}
use Rattle.reclock_client.specs.Commands.{after_reader, after_remap_writer, after_snapshot, ends, forgotten, goes, minted_at, nothing_yet}
use Rattle.reclock_client.specs.Commands.{published_from, read_all, strange, with_changes, with_content, with_late, with_listen, with_step}
use Rattle.reclock_client.specs.Damages.{ForeignCauses, IsForeignIn}
use Rattle.reclock_client.specs.Known.{known}
use Rattle.reclock_client.specs.Asking.{InTurn}
use Rattle.reclock_client.specs.Knowing.{Counts}
use Rattle.reclock_client.specs.Operators.{IsOpen, IsSound, open_calls, part_of}
use Rattle.reclock_client.specs.Polling.{PolledBy, bound, counted}
use Rattle.reclock_client.specs.Reading.{foreign_time, in_time}
use Rattle.reclock_client.proofs.Hearing.{asked_here, tells}
use Rattle.reclock_client.proofs.Keeping.{few_calls, starts_same}
use Rattle.reclock_client.proofs.Telling.{ContentTold, StepTold, Tells}

-- where it is Foreign, its time has P
abbrev pub HasCause : (ℕ → Type 0) → Poll ClockAnswer → Type 0
HasCause P (polls.Done (clocks.Foreign t)) = P t
HasCause P other = ⊤

module _ (P : ℕ → Type 0) (c : Course) where
  join_remap_none : (errand : Option Errand) (answer : WriteAnswer) → HasCause P (after_join_remap c errand answer).1
  join_remap_none (Some errands.Open) (writes.Opened member version) = tt
  join_remap_none (Some (errands.Mint t seen)) (writes.Opened member version) = tt
  join_remap_none errand (writes.MembersFull version) = tt
  join_remap_none errand other = tt

  append_remap_none : (errand : Option Errand) (answer : WriteAnswer) → HasCause P (after_append_remap c errand answer).1
  append_remap_none (Some (errands.Mint t seen)) writes.Ok = tt
  append_remap_none (Some (errands.Mint t seen)) (writes.Mismatch current) = tt
  append_remap_none errand (writes.Heavy weight) = tt
  append_remap_none errand other = tt

  leave_remap_none : (errand : Option Errand) (answer : WriteAnswer) → HasCause P (after_leave_remap c errand answer).1
  leave_remap_none (Some errands.Close) (writes.Closed version) = tt
  leave_remap_none (Some (errands.Mint t seen)) (writes.Closed version) = tt
  leave_remap_none errand other = tt

  remap_none : (step : Step) (answer : WriteAnswer) → HasCause P (after_remap_writer c step answer).1
  remap_none steps.JoinRemap answer = join_remap_none c.errand answer
  remap_none (steps.AppendRemap from) answer = append_remap_none c.errand answer
  remap_none steps.LeaveRemap answer = leave_remap_none c.errand answer
  remap_none other answer = tt

  published_none : (upper : Option ℕ) → HasCause P (published_from c upper).1
  published_none None = tt
  published_none (Some from) = by (covers c.synced from)
    where
      by : (b : Bool) → HasCause P (cond b (goes c (steps.AppendData from)) (ends c (clocks.Published c.synced))).1
      by true = tt
      by false = tt

  join_data_none : (errand : Option Errand) (answer : WriteAnswer) → HasCause P (after_join_data c errand answer).1
  join_data_none (Some errands.Open) (writes.Opened member version) = tt
  join_data_none (Some (errands.Publish rows)) (writes.Opened member version) = tt
  join_data_none errand (writes.MembersFull version) = tt
  join_data_none errand other = tt

  append_data_none : (answer : WriteAnswer) → HasCause P (after_append_data c answer).1
  append_data_none writes.Ok = tt
  append_data_none (writes.Mismatch current) = published_none current
  append_data_none (writes.Heavy weight) = tt
  append_data_none other = tt

  leave_data_none : (errand : Option Errand) (answer : WriteAnswer) → HasCause P (after_leave_data c errand answer).1
  leave_data_none (Some errands.Close) (writes.Closed version) = tt
  leave_data_none (Some (errands.Publish rows)) (writes.Closed version) = tt
  leave_data_none errand other = tt

  data_none : (step : Step) (answer : WriteAnswer) → HasCause P (after_data_writer c step answer).1
  data_none steps.JoinData answer = join_data_none c.errand answer
  data_none (steps.AppendData from) answer = append_data_none answer
  data_none steps.LeaveData answer = leave_data_none c.errand answer
  data_none other answer = tt

  minted_none : (t : ℕ) (upper : Option ℕ) → HasCause P (minted_at c t upper).1
  minted_none t None = tt
  minted_none t (Some u) = by (nat_le u t)
    where
      by : (b : Bool) → HasCause P (cond b (goes c (steps.AppendRemap u)) (ends c (clocks.Lost (Some u)))).1
      by true = tt
      by false = tt

  read_none : (errand : Option Errand) → HasCause P (read_all c errand).1
  read_none (Some errands.Sync) = tt
  read_none (Some (errands.Mint t seen)) = minted_none t c.synced
  read_none other = tt

  poll_cause : (A : Type 0) (answered : A → Next) (p : Poll A) → ((answer : A) → p ≡ polls.Done answer → HasCause P (answered answer).1) →
      HasCause P (after_poll answered c p).1
  poll_cause A answered polls.Busy f = tt
  poll_cause A answered polls.More f = tt
  poll_cause A answered polls.Fault f = tt
  poll_cause A answered polls.Spent f = tt
  poll_cause A answered (polls.Damaged damage) f = tt
  poll_cause A answered (polls.Done answer) f = f answer refl

-- ---- the reader

module _ (shard : ShardId) (start : Stored) (es : List Entry) (list : List Update) (c : Course) (taken : c.intake ≡ intakes.Nothing) where
  abbrev Cause : ℕ → Type 0
  Cause t = IsForeignIn (accepted shard list start es) c.since c.synced c.bindings t

  content_cause : (rows : List Row) → ContentTold shard start es list c.since rows → HasCause Cause (after_snapshot c (reads.Rows rows)).1
  content_cause rows told = by (foreign_time unset (rows_at c.since rows)) refl
    where
      by : (f : Option ℕ) → foreign_time unset (rows_at c.since rows) ≡ f → HasCause Cause (with_content c rows f).1
      by None e = tt
      by (Some t) e = inl (ap (λ (rs : List Row). foreign_time unset (rows_at c.since rs)) (sym told.rows_are) ∙ e)

  late_cause : (upper : Option ℕ) → HasCause Cause (with_late c upper).1
  late_cause upper = by (is_at upper 0)
    where
      by : (b : Bool) → HasCause Cause (cond b (nothing_yet c) (ends c (clocks.Early c.since))).1
      by true = read_none Cause (forgotten c) c.errand
      by false = tt

  step_cause : (to : Option ℕ) (rows : List Update) → StepTold shard start es list c.synced to rows → HasCause Cause (with_step c rows to).1
  step_cause to rows told = by (in_time (last_time c.bindings) rows)
    where
      pick : (f : Option ℕ) → foreign_time (reached c.bindings) rows ≡ f → HasCause Cause (with_changes c rows to f).1
      pick None e = tt
      pick (Some t) e = inr (to, ap (foreign_time (reached c.bindings)) (sym told.rows_are) ∙ e)

      by : (b : Bool) → HasCause Cause (cond b (with_changes c rows to (foreign_time (reached c.bindings) rows)) (strange c)).1
      by true = pick (foreign_time (reached c.bindings) rows) refl
      by false = tt

  snapshot_cause : (answer : ReadAnswer) → Tells shard start es list c steps.Snapshot answer → HasCause Cause (after_snapshot c answer).1
  snapshot_cause (reads.Rows rows) told = content_cause rows told
  snapshot_cause (reads.Late upper) told = late_cause upper
  snapshot_cause (reads.Early since) told = tt
  snapshot_cause (reads.Expired version) told = tt
  snapshot_cause other told = tt

  -- what is told of a step
  abbrev ToldStep : ReadAnswer → Type 0
  ToldStep (reads.Step from to rows) = StepTold shard start es list c.synced to rows
  ToldStep other = ⊤

  as_step : (at : Step) (answer : ReadAnswer) → Tells shard start es list c at answer → (at ≡ steps.Listen) ⊎ (at ≡ steps.Next) → ToldStep answer
  as_step at answer told (inl is) = listens answer (subst (λ (s : Step). Tells shard start es list c s answer) is told)
    where
      listens : (a : ReadAnswer) → Tells shard start es list c steps.Listen a → ToldStep a
      listens (reads.Step from to rows) t = t
      listens other t = tt
  as_step at answer told (inr is) = listens answer (subst (λ (s : Step). Tells shard start es list c s answer) is told)
    where
      listens : (a : ReadAnswer) → Tells shard start es list c steps.Next a → ToldStep a
      listens (reads.Step from to rows) t = t
      listens other t = tt

  listen_cause : (answer : ReadAnswer) → ToldStep answer → HasCause Cause (after_listen c answer).1
  listen_cause (reads.Step from to rows) told = step_cause to rows told
  listen_cause (reads.Quiet upper) told = read_none Cause (with_listen c) c.errand
  listen_cause reads.Ended told = read_none Cause (with_listen c) c.errand
  listen_cause (reads.Early since) told = tt
  listen_cause (reads.Expired version) told = tt
  listen_cause other told = tt

  join_cause : (answer : ReadAnswer) → HasCause Cause (after_join_reader c answer).1
  join_cause (reads.Opened member version since) = tt
  join_cause (reads.MembersFull version) = tt
  join_cause other = tt

  leave_cause : (answer : ReadAnswer) → HasCause Cause (after_leave_reader c answer).1
  leave_cause (reads.Closed version) = tt
  leave_cause other = tt

  reader_cause : (at : Step) (answer : ReadAnswer) → Tells shard start es list c at answer → HasCause Cause (after_reader c at answer).1
  reader_cause steps.JoinReader answer told = join_cause answer
  reader_cause steps.Snapshot answer told = snapshot_cause answer told
  reader_cause steps.Listen answer told = listen_cause answer (as_step steps.Listen answer told (inl refl))
  reader_cause steps.Next answer told = listen_cause answer (as_step steps.Next answer told (inr refl))
  reader_cause steps.LeaveReader answer told = leave_cause answer
  reader_cause other answer told = tt

-- ---- one poll

module _ (client : ℕ) (front now : Option History) (o new : Operator) (s : IsSound o) (turn : InTurn o) (busy : IsSome o.course.errand)
    (taken : o.course.intake ≡ intakes.Nothing) (is_open : IsOpen o (part_of o.course.step)) (counts : Counts new) (t : ℕ)
    (h : History) (there : now ≡ Some h) (list : List Update) (st : StandsFor h.start o.remap list) (l : Lawful h) where
  abbrev Caused : ℕ → Type 0
  Caused = Cause o.remap h.start (reverse h.trail) list o.course taken

  read_cause : (p : Poll ReadAnswer) → new.calls ≡ counted p o.calls new.reader.trying.calls →
      LegalPoll readers.machine client (readers.kept o.reader) new.reader.trying.calls p h.start (reverse h.trail) list → IsSome o.reader.asked →
      part_of o.course.step ≡ parts.Reader → HasCause Caused (after_poll (after_reader o.course o.course.step) o.course p).1
  read_cause p calls_are legal some at = poll_cause Caused o.course ReadAnswer (after_reader o.course o.course.step) p (λ answer e.
      let done : LegalPoll readers.machine client (readers.kept o.reader) new.reader.trying.calls (polls.Done answer) h.start
      (reverse h.trail) list =
      subst (λ (q : Poll ReadAnswer).
      LegalPoll readers.machine client (readers.kept o.reader) new.reader.trying.calls q h.start (reverse h.trail) list) e legal in
      let n_is : new.calls ≡ min (o.calls + new.reader.trying.calls) most =
      calls_are ∙ ap (λ (q : Poll ReadAnswer). counted q o.calls new.reader.trying.calls) e in
      let less = few_calls o.calls new.reader.trying.calls (open_calls new (part_of new.course.step))
      (subst (λ (m : ℕ). min (m + open_calls new (part_of new.course.step)) most < most) n_is counts) in
      reader_cause o.remap h.start (reverse h.trail) list o.course taken o.course.step answer
      (tells o.remap h.start (reverse h.trail) list st (lawful_back h l) client new.reader.trying.calls (readers.kept o.reader)
      s.machines.reads_remap o.course o.course.step answer (asked_here o turn busy at some) (done less)))

  cause_by : (part : Part) → part_of o.course.step ≡ part → PolledBy part client front now o new (polls.Done (clocks.Foreign t)) → Caused t
  cause_by parts.RemapWriter at (p, i, comes) = subst (HasCause Caused) (sym comes.1)
      (poll_cause Caused o.course WriteAnswer (after_remap_writer o.course o.course.step) p
      (λ answer e. remap_none Caused o.course o.course.step answer))
  cause_by parts.DataWriter at (p, i, comes) = subst (HasCause Caused) (sym comes.1)
      (poll_cause Caused o.course WriteAnswer (after_data_writer o.course o.course.step) p
      (λ answer e. data_none Caused o.course o.course.step answer))
  cause_by parts.Looker at (p, i, comes) = subst (HasCause Caused) (sym comes.1)
      (poll_cause Caused o.course (Option ℕ) (published_from o.course) p (λ answer e. published_none Caused o.course answer))
  cause_by parts.Reader at (p, i, comes) = subst (HasCause Caused) (sym comes.1)
      (read_cause p (ap (λ (x : Operator). x.calls) comes.0)
      ((subst (λ (f : Option History). WhereLawful o.remap f
      (Backwards (LegalPoll readers.machine client (readers.kept o.reader) new.reader.trying.calls p))) there
      (subst (λ (d : ShardId). WhereLawful d now
      (Backwards (LegalPoll readers.machine client (readers.kept o.reader) new.reader.trying.calls p))) s.machines.reads_remap i.legal))
      list st l)
      (subst (IsOpen o) at is_open) at)

pub foreign_causes : ForeignCauses
foreign_causes client front now o new t busy polled counts = by now refl
  where
    mid : Course
    mid = bound o.course

    ready : Operator
    ready = polled.ready

    same : ready.course ≡ record mid { step = ready.course.step }
    same = (starts_same (part_of mid.step) (record o { course = mid }) ready polled.readies).course

    remap : ready.remap ≡ o.remap
    remap = (starts_same (part_of mid.step) (record o { course = mid }) ready polled.readies).remap

    by : (f : Option History) → now ≡ f → WhereLawful o.remap f (Backwards (λ start es list.
        IsForeignIn (accepted o.remap list start es) o.course.since o.course.synced (known o.course) t))
    by None there = tt
    by (Some h) there = λ list st l.
        subst (λ (c : Course). IsForeignIn (accepted o.remap list h.start (reverse h.trail)) c.since c.synced c.bindings t) same
        (subst (λ (d : ShardId). IsForeignIn (accepted d list h.start (reverse h.trail)) ready.course.since ready.course.synced
        ready.course.bindings t) remap
        (cause_by client front now ready new polled.sound polled.turn (subst (λ (c : Course). IsSome c.errand) (sym same) busy)
        (subst (λ (c : Course). c.intake ≡ intakes.Nothing) (sym same) refl) polled.is_open counts t h there list
        (subst (λ (d : ShardId). StandsFor h.start d list) (sym remap) st) l (part_of ready.course.step) refl polled.polled))
