-- An operator stays in turn when its inner command begins, and when rows that were read are bound.
use Rattle.std.proofs.Common.{◌≡◌, ℕ, true, false, Option, Some, None, Result, Ok, Err, List, refl, sym, ap, subst, ◌∙◌}
use Rattle.std.specs.Prelude.{⊤, IfSome, IsSome, OnErr, OnOk}
use Rattle.std.specs.declared.alloc.AllocError.{AllocError}
use Rattle.update_core.specs.declared.updates.Update.{Update}
use Rattle.update_core.specs.Frontiers.{after as after_}
use Rattle.store_core.specs.Histories.{History}
use Rattle.history_core.specs.declared.asked.Asked.{Asked}
use Rattle.history_core.specs.declared.asked.Asked.TheVariants as asks
use Rattle.machine_core.specs.Polling.{FollowsWhere}
use Rattle.read_client.specs.Following as reads
use Rattle.read_client.specs.declared.readers.Reader.{Reader}
use Rattle.read_client.specs.Reading as readers
use Rattle.write_client.specs.declared.writers.Writer.{Writer}
use Rattle.write_client.specs.Beginning.{Closing}
use Rattle.write_client.specs.Machining as writes
use Rattle.write_client.specs.Writing as writers
use Rattle.reclock_client.specs.declared.courses.Course.{Course}
use Rattle.reclock_client.specs.declared.errands.Errand.{Errand}
use Rattle.reclock_client.specs.declared.errands.Errand.TheVariants as errands
use Rattle.reclock_client.specs.declared.operators.Operator.{Operator}
use Rattle.reclock_client.specs.declared.starting.Begun.{Begun}
use Rattle.reclock_client.specs.declared.starting.Begun.TheVariants as begun
use Rattle.reclock_client.specs.declared.steps.Part.{Part}
use Rattle.reclock_client.specs.declared.steps.Part.TheVariants as parts
use Rattle.reclock_client.specs.declared.steps.Step.{Step}
use Rattle.reclock_client.specs.declared.steps.Step.TheVariants as steps
use Rattle.reclock_client.specs.Operators.{Follows, IsOpen}
use Rattle.reclock_client.specs.Parts.{part_of}
use Rattle.reclock_client.specs.Polling.{BeginsAppend, DataBegun, DataStarts, Halts, ReadStarts, RemapBegun, RemapStarts, bound}
use Rattle.reclock_client.specs.Minting.{mint_rows, slice_rows}
use Rattle.reclock_client.specs.Turns.{Clients, AtStep, Listens, Reads, Serves, Takes, clients, heard}
use Rattle.reclock_client.proofs.Passing.{waiting_follows}
use Rattle.reclock_client.proofs.ReadTurning.{IsReadStep, syncs_or_mints, takes_read}
use Rattle.reclock_client.proofs.Turning.{serves_at, serves_on, some_same}

-- ---- rows are bound

pub bound_turn : (o : Operator) (c : Course) → c ≡ bound o.course → AtStep o → AtStep (record o { course = c })
bound_turn o c is turn = subst (λ (x : Course). AtStep (record o { course = x })) (sym is) turn

pub halts_turn : (o : Operator) (c : Course) → Halts o.course c → AtStep o → AtStep (record o { course = c })
halts_turn o c h turn = subst (λ (x : Course). AtStep (record o { course = x })) (sym h.same) turn

-- ---- which steps are the reader's

abbrev pub OfReaderStep : Step → Type 0
OfReaderStep steps.JoinReader = ⊤
OfReaderStep steps.Snapshot = ⊤
OfReaderStep steps.Listen = ⊤
OfReaderStep steps.Next = ⊤
OfReaderStep steps.LeaveReader = ⊤
OfReaderStep other = ⊥

pub of_reader : (step : Step) → part_of step ≡ parts.Reader → OfReaderStep step
of_reader steps.JoinReader at = tt
of_reader steps.Snapshot at = tt
of_reader steps.Listen at = tt
of_reader steps.Next at = tt
of_reader steps.LeaveReader at = tt
of_reader steps.JoinRemap at = absurd (let bad : parts.RemapWriter ≡ parts.Reader = at in cc)
of_reader (steps.AppendRemap from) at = absurd (let bad : parts.RemapWriter ≡ parts.Reader = at in cc)
of_reader steps.LeaveRemap at = absurd (let bad : parts.RemapWriter ≡ parts.Reader = at in cc)
of_reader steps.JoinData at = absurd (let bad : parts.DataWriter ≡ parts.Reader = at in cc)
of_reader (steps.AppendData from) at = absurd (let bad : parts.DataWriter ≡ parts.Reader = at in cc)
of_reader steps.LeaveData at = absurd (let bad : parts.DataWriter ≡ parts.Reader = at in cc)
of_reader steps.Look at = absurd (let bad : parts.Looker ≡ parts.Reader = at in cc)

-- ---- a writer

append_member : (rows : Option (List Update × Option ℕ)) (from : ℕ) (old new : Writer) (b : Begun) → BeginsAppend rows from old new (Ok b) →
    new.member ≡ old.member
append_member None from old new b begins = absurd begins
append_member (Some rows) from old new begun.Yes (free, a) = ap (λ (w : Writer). w.member) a.after
append_member (Some rows) from old new begun.Spent (spent, same) = ap (λ (w : Writer). w.member) same

close_member : (old new : Writer) → Closing old new → new.member ≡ old.member
close_member old new (member, is, after) = ap (λ (w : Writer). w.member) after

module _ (o new : Operator) (turn : AtStep o) (busy : IsSome o.course.errand) where
  -- ---- the remap shard's writer

  remap_at : (w : Writer) (step : Step) → w.member ≡ o.remap_writer.member →
      ((errand : Errand) → Takes (clients o) (heard o.course) errand o.course.step → Takes (clients o) (heard o.course) errand step) →
      AtStep (record o { remap_writer = w; course = record o.course { step = step } })
  remap_at w step same goes = serves_at o turn busy o.course.step refl (λ errand e s.
      serves_on (record (clients o) { remap_member = w.member }) (record o.course { step = step }) errand step e
      (subst (λ (m : Option ℕ). Serves (record (clients o) { remap_member = m }) (heard o.course) errand step) (sym same)
      (record { takes = goes errand s.takes; listens = s.listens; few = s.few })))

  remap_leaves : (from : ℕ) (errand : Errand) → Takes (clients o) (heard o.course) errand (steps.AppendRemap from) →
      Takes (clients o) (heard o.course) errand steps.LeaveRemap
  remap_leaves from (errands.Mint t seen) h = h.0
  remap_leaves from other h = absurd h

  remap_after : (w : Writer) (b : Begun) (from : ℕ) → o.course.step ≡ steps.AppendRemap from → w.member ≡ o.remap_writer.member →
      RemapBegun b (record o { remap_writer = w }) new → AtStep new
  remap_after w begun.Yes from at same is = subst AtStep (sym is) (remap_at w o.course.step same (λ errand t. t))
  remap_after w begun.Spent from at same (leaves, is) = subst AtStep (sym is)
      (remap_at new.remap_writer steps.LeaveRemap (close_member w new.remap_writer leaves ∙ same)
      (λ errand t. remap_leaves from errand (subst (λ (x : Step). Takes (clients o) (heard o.course) errand x) at t)))

  remap_unjoined : (errand : Errand) → Takes (clients o) (heard o.course) errand steps.JoinRemap →
      Takes (record (clients o) { remap_member = None }) (heard o.course) errand steps.JoinRemap
  remap_unjoined errands.Open t = t
  remap_unjoined (errands.Mint at seen) t = t
  remap_unjoined other t = absurd t

  pub remap_starts : (step : Step) → o.course.step ≡ step → RemapStarts step o new → AtStep new
  remap_starts steps.JoinRemap at is = subst AtStep (sym is) (serves_at o turn busy steps.JoinRemap at (λ errand e s.
      serves_on (record (clients o) { remap_member = None }) o.course errand o.course.step e
      (subst (λ (x : Step). Serves (record (clients o) { remap_member = None }) (heard o.course) errand x) (sym at)
      (record { takes = remap_unjoined errand s.takes; listens = s.listens; few = s.few }))))
  remap_starts (steps.AppendRemap from) at (w, b, begins, then_) = remap_after w b from at
      (append_member (mint_rows o.course.bindings o.course.errand) from o.remap_writer w b begins) then_
  remap_starts other at k = subst AtStep (sym k.1)
      (remap_at new.remap_writer o.course.step (close_member o.remap_writer new.remap_writer k.0) (λ errand t. t))

  -- ---- the data shard's writer

  data_at : (w : Writer) (step : Step) → w.member ≡ o.data_writer.member →
      ((errand : Errand) → Takes (clients o) (heard o.course) errand o.course.step → Takes (clients o) (heard o.course) errand step) →
      AtStep (record o { data_writer = w; course = record o.course { step = step } })
  data_at w step same goes = serves_at o turn busy o.course.step refl (λ errand e s.
      serves_on (record (clients o) { data_member = w.member }) (record o.course { step = step }) errand step e
      (subst (λ (m : Option ℕ). Serves (record (clients o) { data_member = m }) (heard o.course) errand step) (sym same)
      (record { takes = goes errand s.takes; listens = s.listens; few = s.few })))

  data_leaves : (from : ℕ) (errand : Errand) → Takes (clients o) (heard o.course) errand (steps.AppendData from) →
      Takes (clients o) (heard o.course) errand steps.LeaveData
  data_leaves from (errands.Publish rows) h = h.0
  data_leaves from other h = absurd h

  data_after : (w : Writer) (b : Begun) (from : ℕ) → o.course.step ≡ steps.AppendData from → w.member ≡ o.data_writer.member →
      DataBegun b (record o { data_writer = w }) new → AtStep new
  data_after w begun.Yes from at same is = subst AtStep (sym is) (data_at w o.course.step same (λ errand t. t))
  data_after w begun.Spent from at same (leaves, is) = subst AtStep (sym is)
      (data_at new.data_writer steps.LeaveData (close_member w new.data_writer leaves ∙ same)
      (λ errand t. data_leaves from errand (subst (λ (x : Step). Takes (clients o) (heard o.course) errand x) at t)))

  data_unjoined : (errand : Errand) → Takes (clients o) (heard o.course) errand steps.JoinData →
      Takes (record (clients o) { data_member = None }) (heard o.course) errand steps.JoinData
  data_unjoined errands.Open t = t
  data_unjoined (errands.Publish rows) t = t
  data_unjoined other t = absurd t

  pub data_starts : (step : Step) → o.course.step ≡ step → DataStarts step o new → AtStep new
  data_starts steps.JoinData at is = subst AtStep (sym is) (serves_at o turn busy steps.JoinData at (λ errand e s.
      serves_on (record (clients o) { data_member = None }) o.course errand o.course.step e
      (subst (λ (x : Step). Serves (record (clients o) { data_member = None }) (heard o.course) errand x) (sym at)
      (record { takes = data_unjoined errand s.takes; listens = s.listens; few = s.few }))))
  data_starts (steps.AppendData from) at (w, b, begins, then_) = data_after w b from at
      (append_member (slice_rows o.course.bindings o.course.synced o.course.errand from) from o.data_writer w b begins) then_
  data_starts other at k = subst AtStep (sym k.1)
      (data_at new.data_writer o.course.step (close_member o.data_writer new.data_writer k.0) (λ errand t. t))

  -- ---- the reader

  -- with another reader
  abbrev with_reader : Reader → Clients
  with_reader r = record (clients o) { reader_member = r.member; asked = r.asked; listen = r.listen }

  read_on : (r : Reader) (step : Step) → o.course.step ≡ step →
      ((errand : Errand) → Serves (clients o) (heard o.course) errand step → Serves (with_reader r) (heard o.course) errand step) →
      AtStep (record o { reader = r })
  read_on r step at goes = serves_at o turn busy step at (λ errand e s.
      serves_on (with_reader r) o.course errand o.course.step e
      (subst (λ (x : Step). Serves (with_reader r) (heard o.course) errand x) (sym at) (goes errand s)))

  -- one that has just begun to read at a step of a reading
  reads_on : (r : Reader) (step : Step) → IsReadStep step → o.course.step ≡ step →
      (Reads (clients o) (heard o.course) step → Reads (with_reader r) (heard o.course) step) →
      (Reads (clients o) (heard o.course) step → Listens (clients o) (heard o.course) → Listens (with_reader r) (heard o.course)) →
      AtStep (record o { reader = r })
  reads_on r step is at still listens = read_on r step at (λ errand s.
      let t = syncs_or_mints (clients o) (heard o.course) errand step is s.takes in
      record {
        takes = takes_read (with_reader r) (heard o.course) errand step t.0 is (still t.1);
        listens = listens t.1 s.listens;
        few = s.few;
      })

  reader_unjoined : (r : Reader) → r.member ≡ None → r.listen ≡ None → (errand : Errand) →
      Serves (clients o) (heard o.course) errand steps.JoinReader → Serves (with_reader r) (heard o.course) errand steps.JoinReader
  reader_unjoined r none silent errands.Open s = record {
    takes = s.takes;
    listens = λ on. absurd (let bad : false ≡ true = sym s.takes.1 ∙ on in cc);
    few = tt;
  }
  reader_unjoined r none silent other s = absurd s.takes

  reader_leaves : (r : Reader) → r.member ≡ o.reader.member → r.listen ≡ o.reader.listen → (errand : Errand) →
      Serves (clients o) (heard o.course) errand steps.LeaveReader →
      Serves (record (with_reader r) { remap_member = None }) (heard o.course) errand steps.LeaveReader
  reader_leaves r same stands errands.Close s = record {
    takes = (some_same same s.takes.0, s.takes.1);
    listens = λ on. stands ∙ s.listens on;
    few = tt;
  }
  reader_leaves r same stands other s = absurd s.takes

  pub read_starts : (step : Step) → OfReaderStep step → o.course.step ≡ step → ReadStarts step o new → AtStep new
  read_starts steps.JoinReader here at is = subst AtStep (sym is)
      (read_on (readers.opened o.remap o.moment o.lease) steps.JoinReader at
      (reader_unjoined (readers.opened o.remap o.moment o.lease) refl refl))
  read_starts steps.Snapshot here at (after, is) = let member : new.reader.member ≡ o.reader.member = ap (λ (r : Reader). r.member) after in
      subst AtStep (sym is) (reads_on new.reader steps.Snapshot tt at
      (λ h. ((h.0.0, some_same member h.0.1, h.0.2), h.1))
      (λ h listens on. absurd (let bad : false ≡ true = sym h.1 ∙ on in cc)))
  read_starts steps.Listen here at (after, is) = let member : new.reader.member ≡ o.reader.member = ap (λ (r : Reader). r.member) after in
      let stands : new.reader.listen ≡ Some (after_ o.course.since) = ap (λ (r : Reader). r.listen) after in
      subst AtStep (sym is) (reads_on new.reader steps.Listen tt at
      (λ h. (
        (h.0.0, some_same member h.0.1, h.0.2),
        h.1,
        h.2,
        told new.reader.asked (stands ∙ ap (λ (f : Option ℕ). Some f) (sym h.2)),
      ))
      (λ h listens on. absurd (let bad : false ≡ true = sym h.1 ∙ on in cc)))
    where
      told : (a : Option Asked) → new.reader.listen ≡ Some o.course.synced → IfSome a (λ asked. new.reader.listen ≡ Some o.course.synced)
      told None h = tt
      told (Some asked) h = h
  read_starts steps.Next here at (after, is) = let member : new.reader.member ≡ o.reader.member = ap (λ (r : Reader). r.member) after in
      let stands : new.reader.listen ≡ o.reader.listen = ap (λ (r : Reader). r.listen) after in
      subst AtStep (sym is) (reads_on new.reader steps.Next tt at
      (λ h. ((h.0.0, some_same member h.0.1, h.0.2), h.1))
      (λ h listens on. stands ∙ listens on))
  read_starts steps.LeaveReader here at ((m, m_is, after), is) =
      let member : new.reader.member ≡ o.reader.member = ap (λ (r : Reader). r.member) after in
      let stands : new.reader.listen ≡ o.reader.listen = ap (λ (r : Reader). r.listen) after in
      subst AtStep (sym is) (serves_at o turn busy steps.LeaveReader at (λ errand e s.
      serves_on (record (with_reader new.reader) { remap_member = None }) o.course errand o.course.step e
      (subst (λ (x : Step). Serves (record (with_reader new.reader) { remap_member = None }) (heard o.course) errand x) (sym at)
      (reader_leaves new.reader member stands errand s))))
  read_starts other here at starts = absurd here

  pub remap_begins : (r : Result Unit AllocError) → OnOk r (RemapStarts o.course.step o new) → OnErr r (new ≡ o) → AtStep new
  remap_begins (Ok done) starts same = remap_starts o.course.step refl starts
  remap_begins (Err e) starts same = subst AtStep (sym same) turn

  pub data_begins : (r : Result Unit AllocError) → OnOk r (DataStarts o.course.step o new) → OnErr r (new ≡ o) → AtStep new
  data_begins (Ok done) starts same = data_starts o.course.step refl starts
  data_begins (Err e) starts same = subst AtStep (sym same) turn

-- ---- the reader's command is then open, and the operator follows

module _ (o new : Operator) where
  -- it is, at a step of the reader, where the reader is asked something
  reader_open : (step : Step) → part_of step ≡ parts.Reader → new.course.step ≡ step → (asked : Asked) → new.reader.asked ≡ Some asked →
      IsOpen new (part_of new.course.step)
  reader_open step at here asked is = subst (λ (p : Part). IsOpen new p) (sym (ap part_of here ∙ at))
      (subst (λ (a : Option Asked). IsSome a) (sym is) refl)

  step_of : (next : Operator) → new ≡ next → new.course.step ≡ next.course.step
  step_of next is = ap (λ (x : Operator). x.course.step) is

  pub read_opens : (step : Step) → OfReaderStep step → o.course.step ≡ step → ReadStarts step o new → IsOpen new (part_of new.course.step)
  read_opens steps.JoinReader here at is = let r : Reader = readers.opened o.remap o.moment o.lease in
      reader_open steps.JoinReader refl (step_of (record o { reader = r }) is ∙ at) (asks.OpenReader o.remap o.moment o.lease)
      (ap (λ (x : Operator). x.reader.asked) is)
  read_opens steps.Snapshot here at (after, is) = reader_open steps.Snapshot refl (step_of (record o { reader = new.reader }) is ∙ at)
      (asks.Snapshot o.course.since) (ap (λ (r : Reader). r.asked) after)
  read_opens steps.Listen here at (after, is) = reader_open steps.Listen refl (step_of (record o { reader = new.reader }) is ∙ at)
      (asks.Listen o.course.since) (ap (λ (r : Reader). r.asked) after)
  read_opens steps.Next here at (after, is) = reader_open steps.Next refl (step_of (record o { reader = new.reader }) is ∙ at)
      asks.Next (ap (λ (r : Reader). r.asked) after)
  read_opens steps.LeaveReader here at ((m, m_is, after), is) = reader_open steps.LeaveReader refl
      (step_of (record o { remap_writer = writers.opened o.remap; reader = new.reader }) is ∙ at) asks.CloseReader
      (ap (λ (r : Reader). r.asked) after)
  read_opens other here at starts = absurd here

  module _ (goes : (client : ℕ) (front : Option History) → reads.FollowsWhere client front o.reader →
      reads.FollowsWhere client front new.reader)
      (client : ℕ) (front : Option History) where
    follows_with : (w : Writer) → (Follows client front o → FollowsWhere writes.machine client front w) →
        new ≡ record o { remap_writer = w; reader = new.reader } → Follows client front o → Follows client front new
    follows_with w own is f = subst (λ (x : Operator). Follows client front x) (sym is) (record {
      remap_writer = own f;
      reader = goes client front f.reader;
      data_writer = f.data_writer;
      looker = f.looker;
    })

    pub read_follows_on : (step : Step) → OfReaderStep step → ReadStarts step o new → Follows client front o → Follows client front new
    read_follows_on steps.JoinReader here is = follows_with o.remap_writer (λ f. f.remap_writer)
        (is ∙ ap (λ (r : Reader). let y : Operator = record o { reader = r } in y) (sym (ap (λ (x : Operator). x.reader) is)))
    read_follows_on steps.Snapshot here (after, is) = follows_with o.remap_writer (λ f. f.remap_writer) is
    read_follows_on steps.Listen here (after, is) = follows_with o.remap_writer (λ f. f.remap_writer) is
    read_follows_on steps.Next here (after, is) = follows_with o.remap_writer (λ f. f.remap_writer) is
    read_follows_on steps.LeaveReader here (changed, is) =
        follows_with (writers.opened o.remap) (λ f. waiting_follows (writers.opened o.remap) client front refl) is
    read_follows_on other here starts = absurd here
