-- The open inner command of an operator's step is the one that the step names: it stays so.
use Rattle.std.proofs.Common.{◌≡◌, ℕ, true, false, Option, Some, None, Result, Ok, Err, List, refl, sym, ap, subst, ◌∙◌, inl, inr}
use Rattle.std.specs.Prelude.{IfSome, IsSome, OnErr, OnOk}
use Rattle.std.specs.declared.alloc.AllocError.{AllocError}
use Rattle.update_core.specs.declared.updates.Update.{Update}
use Rattle.store_core.specs.declared.shards.ShardId.{ShardId}
use Rattle.history_core.specs.declared.asked.Asked.{Asked}
use Rattle.history_core.specs.declared.asked.Asked.TheVariants as asks
use Rattle.remap_core.specs.Extending.{with_rows}
use Rattle.read_client.specs.declared.readers.Reader.{Reader}
use Rattle.read_client.specs.Reading as readers
use Rattle.write_client.specs.declared.writers.Writer.{Writer}
use Rattle.write_client.specs.Writing as writers
use Rattle.reclock_client.specs.declared.courses.Course.{Course}
use Rattle.reclock_client.specs.declared.errands.Errand.{Errand}
use Rattle.reclock_client.specs.declared.intakes.Intake.{Intake}
use Rattle.reclock_client.specs.declared.intakes.Intake.TheVariants as intakes
use Rattle.reclock_client.specs.declared.operators.Operator.{Operator}
use Rattle.reclock_client.specs.declared.starting.Begun.{Begun}
use Rattle.reclock_client.specs.declared.starting.Begun.TheVariants as begun
use Rattle.reclock_client.specs.declared.steps.Part.{Part}
use Rattle.reclock_client.specs.declared.steps.Part.TheVariants as parts
use Rattle.reclock_client.specs.declared.steps.Step.{Step}
use Rattle.reclock_client.specs.declared.steps.Step.TheVariants as steps
use Rattle.reclock_client.specs.Asking.{AsksAt, AsksData, AsksOwn, AsksReader, AsksRemap, InTurn, IsAppendOf, asks_of, duties}
use Rattle.reclock_client.specs.Beginning.{begun as begun_as, fault}
use Rattle.reclock_client.specs.Known.{known}
use Rattle.reclock_client.specs.Operators.{IdleBy, IsLight, IsSound, ReaderRests, Rests}
use Rattle.reclock_client.specs.Parts.{part_of}
use Rattle.reclock_client.specs.Minting.{mint_rows, slice_rows}
use Rattle.reclock_client.specs.Polling.{BeginsAppend, DataBegun, DataStarts, Halts, ReadStarts, RemapBegun, RemapStarts, bound}
use Rattle.reclock_client.specs.Reading.{left}
use Rattle.reclock_client.specs.Turns.{AtStep, HasAll, IsFew, Takes, clients, heard}
use Rattle.reclock_client.proofs.Beginnings.{begun_sound, begun_turn, free}
use Rattle.reclock_client.proofs.Fitting.{has_data, has_reader, has_remap}
use Rattle.reclock_client.proofs.StartTurns.{data_begins, of_reader, read_starts, remap_begins}
use Rattle.reclock_client.proofs.Turning.{serves_at}

-- ---- a machine that rests is asked nothing, or is a new one that is to join

no_member : {X : Type 0} (m : Option ℕ) → m ≡ None → IsSome m → X
no_member m none some = absurd (let bad : false ≡ true = subst (λ (x : Option ℕ). IsSome x) none some in cc)

module _ (o : Operator) (s : IsSound o) (errand : Errand) where
  remap_fresh : (step : Step) → part_of step ≡ parts.RemapWriter → Takes (clients o) (heard o.course) errand step → Rests o.remap_writer →
      IfSome o.remap_writer.asked (AsksRemap (duties o) step)
  remap_fresh step at t (inl idle) = subst (λ (a : Option Asked). IfSome a (AsksRemap (duties o) step)) (sym idle) tt
  remap_fresh steps.JoinRemap at t (inr is) =
      subst (λ (a : Option Asked). IfSome a (AsksRemap (duties o) steps.JoinRemap)) (sym (ap (λ (w : Writer). w.asked) is))
      (ap (λ (x : ShardId). asks.OpenWriter x) s.machines.writes_remap)
  remap_fresh (steps.AppendRemap from) at t (inr is) = no_member o.remap_writer.member (ap (λ (w : Writer). w.member) is)
      (has_remap (clients o) (heard o.course) errand (steps.AppendRemap from) tt t)
  remap_fresh steps.LeaveRemap at t (inr is) = no_member o.remap_writer.member (ap (λ (w : Writer). w.member) is)
      (has_remap (clients o) (heard o.course) errand steps.LeaveRemap tt t)
  remap_fresh other at t (inr is) = absurd (let bad : part_of other ≡ parts.RemapWriter = at in cc)

  data_fresh : (step : Step) → part_of step ≡ parts.DataWriter → Takes (clients o) (heard o.course) errand step → Rests o.data_writer →
      IfSome o.data_writer.asked (AsksData (duties o) step)
  data_fresh step at t (inl idle) = subst (λ (a : Option Asked). IfSome a (AsksData (duties o) step)) (sym idle) tt
  data_fresh steps.JoinData at t (inr is) =
      subst (λ (a : Option Asked). IfSome a (AsksData (duties o) steps.JoinData)) (sym (ap (λ (w : Writer). w.asked) is))
      (ap (λ (x : ShardId). asks.OpenWriter x) s.machines.writes_data)
  data_fresh (steps.AppendData from) at t (inr is) = no_member o.data_writer.member (ap (λ (w : Writer). w.member) is)
      (has_data (clients o) (heard o.course) errand (steps.AppendData from) tt t)
  data_fresh steps.LeaveData at t (inr is) = no_member o.data_writer.member (ap (λ (w : Writer). w.member) is)
      (has_data (clients o) (heard o.course) errand steps.LeaveData tt t)
  data_fresh other at t (inr is) = absurd (let bad : part_of other ≡ parts.DataWriter = at in cc)

  reader_fresh : (step : Step) → part_of step ≡ parts.Reader → Takes (clients o) (heard o.course) errand step → ReaderRests o →
      IfSome o.reader.asked (AsksReader (duties o) step)
  reader_fresh step at t (inl idle) = subst (λ (a : Option Asked). IfSome a (AsksReader (duties o) step)) (sym idle) tt
  reader_fresh steps.JoinReader at t (inr is) =
      subst (λ (a : Option Asked). IfSome a (AsksReader (duties o) steps.JoinReader)) (sym (ap (λ (r : Reader). r.asked) is))
      (ap (λ (x : ShardId). asks.OpenReader x o.moment o.lease) s.machines.reads_remap)
  reader_fresh steps.Snapshot at t (inr is) = no_member o.reader.member (ap (λ (r : Reader). r.member) is)
      (has_reader (clients o) (heard o.course) errand steps.Snapshot tt t)
  reader_fresh steps.Listen at t (inr is) = no_member o.reader.member (ap (λ (r : Reader). r.member) is)
      (has_reader (clients o) (heard o.course) errand steps.Listen tt t)
  reader_fresh steps.Next at t (inr is) = no_member o.reader.member (ap (λ (r : Reader). r.member) is)
      (has_reader (clients o) (heard o.course) errand steps.Next tt t)
  reader_fresh steps.LeaveReader at t (inr is) = no_member o.reader.member (ap (λ (r : Reader). r.member) is)
      (has_reader (clients o) (heard o.course) errand steps.LeaveReader tt t)
  reader_fresh other at t (inr is) = absurd (let bad : part_of other ≡ parts.Reader = at in cc)

  at_rest : (step : Step) (part : Part) → part_of step ≡ part → Takes (clients o) (heard o.course) errand step → IdleBy o None true →
      AsksAt (asks_of o) (duties o) step part
  at_rest step parts.RemapWriter at t rest = remap_fresh step at t rest.0
  at_rest step parts.Reader at t rest = reader_fresh step at t rest.1
  at_rest step parts.DataWriter at t rest = data_fresh step at t rest.2
  at_rest step parts.Looker at t rest = tt

-- an operator whose machines all rest
pub fresh_own : (o : Operator) → IsSound o → AtStep o → IdleBy o None true → AsksOwn o
fresh_own o s turn rest = by o.course.errand refl
  where
    by : (x : Option Errand) → o.course.errand ≡ x → IfSome x (λ errand. AsksAt (asks_of o) (duties o) o.course.step
        (part_of o.course.step))
    by None e = tt
    by (Some errand) e = serves_at o turn (subst (λ (x : Option Errand). IsSome x) (sym e) refl) o.course.step refl (λ own is k.
        at_rest o s own o.course.step (part_of o.course.step) refl k.takes rest)

-- ---- rows are bound

pub bound_own : (o : Operator) (c : Course) → c ≡ bound o.course → AsksOwn o → AsksOwn (record o { course = c })
bound_own o c is own = subst (λ (x : Course). AsksOwn (record o { course = x })) (sym is) own

pub halts_own : (o : Operator) (c : Course) → Halts o.course c → AsksOwn o → AsksOwn (record o { course = c })
halts_own o c h own = subst (λ (x : Course). AsksOwn (record o { course = x })) (sym h.same)
    (subst (λ (bs : List (ℕ × List ℕ)). IfSome o.course.errand (λ errand. AsksAt (asks_of o) (record {
      remap_at = o.remap;
      data_at = o.data_shard;
      moment = o.moment;
      lease = o.lease;
      since = o.course.since;
      rises = mint_rows bs o.course.errand;
      slice = λ from. slice_rows bs o.course.synced o.course.errand from;
    }) o.course.step (part_of o.course.step))) (sym h.binds.same) own)

-- ---- an inner command begins

if_some : {P : Type 0} (x : Option Errand) → P → IfSome x (λ errand. P)
if_some None p = tt
if_some (Some errand) p = p

-- no row is left to be bound
abbrev pub IsFlat : Course → Type 0
IsFlat c = known c ≡ c.bindings

module _ (o : Operator) (flat : IsFlat o.course) where
  remap_asks : (w : Writer) (step : Step) (asked : Asked) → part_of step ≡ parts.RemapWriter → w.asked ≡ Some asked →
      AsksRemap (duties o) step asked → AsksOwn (record o { remap_writer = w; course = record o.course { step = step } })
  remap_asks w step asked at is own = if_some o.course.errand
      (subst (λ (p : Part). AsksAt (record (asks_of o) { remap_writer = w.asked }) (duties o) step p) (sym at)
      (subst (λ (a : Option Asked). IfSome a (AsksRemap (duties o) step)) (sym is) own))

  data_asks : (w : Writer) (step : Step) (asked : Asked) → part_of step ≡ parts.DataWriter → w.asked ≡ Some asked →
      AsksData (duties o) step asked → AsksOwn (record o { data_writer = w; course = record o.course { step = step } })
  data_asks w step asked at is own = if_some o.course.errand
      (subst (λ (p : Part). AsksAt (record (asks_of o) { data_writer = w.asked }) (duties o) step p) (sym at)
      (subst (λ (a : Option Asked). IfSome a (AsksData (duties o) step)) (sym is) own))

  read_asks : (w : Writer) (r : Reader) (step : Step) (asked : Asked) → o.course.step ≡ step → part_of step ≡ parts.Reader →
      r.asked ≡ Some asked → AsksReader (duties o) step asked → AsksOwn (record o { remap_writer = w; reader = r })
  read_asks w r step asked here at is own = if_some o.course.errand
      (subst (λ (x : Step). AsksAt (record (asks_of o) { remap_writer = w.asked; reader = r.asked }) (duties o) x (part_of x)) (sym here)
      (subst (λ (p : Part). AsksAt (record (asks_of o) { remap_writer = w.asked; reader = r.asked }) (duties o) step p) (sym at)
      (subst (λ (a : Option Asked). IfSome a (AsksReader (duties o) step)) (sym is) own)))

  -- the rows of an append that has begun
  append_asks : (rows : Option (List Update × Option ℕ)) (from : ℕ) (old w : Writer) → BeginsAppend rows from old w (Ok begun.Yes) →
      (asked : Asked) × (w.asked ≡ Some asked) × IsAppendOf rows from asked
  append_asks None from old w begins = absurd begins
  append_asks (Some rows) from old w (free, a) = (asks.Append rows.0 from rows.1, ap (λ (x : Writer). x.asked) a.after, refl)

  remap_then : (new : Operator) (w : Writer) (b : Begun) (from : ℕ) → o.course.step ≡ steps.AppendRemap from →
      BeginsAppend (mint_rows o.course.bindings o.course.errand) from o.remap_writer w (Ok b) →
      RemapBegun b (record o { remap_writer = w }) new →
      AsksOwn new
  remap_then new w begun.Yes from here begins is =
      let k = append_asks (mint_rows o.course.bindings o.course.errand) from o.remap_writer w begins in
      subst AsksOwn (sym (is ∙ ap (λ (x : Step). let y : Operator = record o { remap_writer = w; course = record o.course { step = x } }
      in y) here))
      (remap_asks w (steps.AppendRemap from) k.0 refl k.1
      (subst (λ (bs : List (ℕ × List ℕ)). IsAppendOf (mint_rows bs o.course.errand) from k.0) (sym flat) k.2))
  remap_then new w begun.Spent from here begins ((member, m_is, after), is) = subst AsksOwn (sym is)
      (remap_asks new.remap_writer steps.LeaveRemap asks.CloseWriter refl (ap (λ (x : Writer). x.asked) after) refl)

  pub remap_own : (new : Operator) (step : Step) → o.course.step ≡ step → part_of step ≡ parts.RemapWriter → RemapStarts step o new →
      AsksOwn new
  remap_own new steps.JoinRemap here at is =
      subst AsksOwn (sym (is ∙ ap (λ (x : Step). let y : Operator = record o {
        remap_writer = writers.opened o.remap;
        course = record
            o.course { step = x };
      } in y) here))
      (remap_asks (writers.opened o.remap) steps.JoinRemap (asks.OpenWriter o.remap) refl refl refl)
  remap_own new (steps.AppendRemap from) here at (w, b, begins, then_) = remap_then new w b from here begins then_
  remap_own new steps.LeaveRemap here at ((member, m_is, after), is) =
      subst AsksOwn (sym (is ∙ ap (λ (x : Step). let y : Operator = record o {
        remap_writer = new.remap_writer;
        course = record o.course
            { step = x };
      } in y) here))
      (remap_asks new.remap_writer steps.LeaveRemap asks.CloseWriter refl (ap (λ (x : Writer). x.asked) after) refl)
  remap_own new other here at k = absurd (let bad : part_of other ≡ parts.RemapWriter = at in cc)

  data_then : (new : Operator) (w : Writer) (b : Begun) (from : ℕ) → o.course.step ≡ steps.AppendData from →
      BeginsAppend (slice_rows o.course.bindings o.course.synced o.course.errand from) from o.data_writer w (Ok b) →
      DataBegun b (record o { data_writer = w }) new → AsksOwn new
  data_then new w begun.Yes from here begins is =
      let k = append_asks (slice_rows o.course.bindings o.course.synced o.course.errand from) from o.data_writer w begins in
      subst AsksOwn (sym (is ∙ ap (λ (x : Step). let y : Operator = record o { data_writer = w; course = record o.course { step = x } }
      in y) here))
      (data_asks w (steps.AppendData from) k.0 refl k.1
      (subst (λ (bs : List (ℕ × List ℕ)). IsAppendOf (slice_rows bs o.course.synced o.course.errand from) from k.0) (sym flat) k.2))
  data_then new w begun.Spent from here begins ((member, m_is, after), is) = subst AsksOwn (sym is)
      (data_asks new.data_writer steps.LeaveData asks.CloseWriter refl (ap (λ (x : Writer). x.asked) after) refl)

  pub data_own : (new : Operator) (step : Step) → o.course.step ≡ step → part_of step ≡ parts.DataWriter → DataStarts step o new →
      AsksOwn new
  data_own new steps.JoinData here at is =
      subst AsksOwn (sym (is ∙ ap (λ (x : Step). let y : Operator = record o {
        data_writer = writers.opened o.data_shard;
        course = record
            o.course { step = x };
      } in y) here))
      (data_asks (writers.opened o.data_shard) steps.JoinData (asks.OpenWriter o.data_shard) refl refl refl)
  data_own new (steps.AppendData from) here at (w, b, begins, then_) = data_then new w b from here begins then_
  data_own new steps.LeaveData here at ((member, m_is, after), is) =
      subst AsksOwn (sym (is ∙ ap (λ (x : Step). let y : Operator = record o {
        data_writer = new.data_writer;
        course = record o.course {
          step = x;
        };
      } in y) here))
      (data_asks new.data_writer steps.LeaveData asks.CloseWriter refl (ap (λ (x : Writer). x.asked) after) refl)
  data_own new other here at k = absurd (let bad : part_of other ≡ parts.DataWriter = at in cc)

  pub read_own : (new : Operator) (step : Step) → o.course.step ≡ step → part_of step ≡ parts.Reader → ReadStarts step o new → AsksOwn new
  read_own new steps.JoinReader here at is = subst AsksOwn (sym is)
      (read_asks o.remap_writer (readers.opened o.remap o.moment o.lease) steps.JoinReader
      (asks.OpenReader o.remap o.moment o.lease) here refl refl refl)
  read_own new steps.Snapshot here at (after, is) = subst AsksOwn (sym is)
      (read_asks o.remap_writer new.reader steps.Snapshot (asks.Snapshot o.course.since) here refl (ap (λ
      (x : Reader). x.asked) after) refl)
  read_own new steps.Listen here at (after, is) = subst AsksOwn (sym is)
      (read_asks o.remap_writer new.reader steps.Listen (asks.Listen o.course.since) here refl (ap (λ (x : Reader). x.asked) after) refl)
  read_own new steps.Next here at (after, is) = subst AsksOwn (sym is)
      (read_asks o.remap_writer new.reader steps.Next asks.Next here refl (ap (λ (x : Reader). x.asked) after) refl)
  read_own new steps.LeaveReader here at ((member, m_is, after), is) = subst AsksOwn (sym is)
      (read_asks (writers.opened o.remap) new.reader steps.LeaveReader asks.CloseReader here refl (ap (λ (x : Reader). x.asked) after) refl)
  read_own new other here at k = absurd (let bad : part_of other ≡ parts.Reader = at in cc)

  remap_begun_own : (new : Operator) (r : Result Unit AllocError) → AsksOwn o → part_of o.course.step ≡ parts.RemapWriter →
      OnOk r (RemapStarts o.course.step o new) → OnErr r (new ≡ o) → AsksOwn new
  remap_begun_own new (Ok done) own at starts same = remap_own new o.course.step refl at starts
  remap_begun_own new (Err e) own at starts same = subst AsksOwn (sym same) own

  data_begun_own : (new : Operator) (r : Result Unit AllocError) → AsksOwn o → part_of o.course.step ≡ parts.DataWriter →
      OnOk r (DataStarts o.course.step o new) → OnErr r (new ≡ o) → AsksOwn new
  data_begun_own new (Ok done) own at starts same = data_own new o.course.step refl at starts
  data_begun_own new (Err e) own at starts same = subst AsksOwn (sym same) own

-- ---- an operator stays in turn

pub is_flat : (c : Course) → c.intake ≡ intakes.Nothing → IsFlat c
is_flat c taken = ap (λ (i : Intake). with_rows c.bindings (left c.since i)) taken

pub begun_in_turn : (o : Operator) (errand : Errand) (step : Step) → IsSound o → AtStep o → fault o ≡ None → IsLight (Some errand) →
    (HasAll (clients o) → Takes (clients o) (heard o.course) errand step) → IsFew errand → InTurn (begun_as o errand step)
begun_in_turn o errand step s turn e light takes few =
    let at : AtStep (begun_as o errand step) = begun_turn o errand step turn e takes few in (
      at,
      fresh_own (begun_as o errand step) (begun_sound o errand step s e light) at
          (free o o.course.errand o.course.joined e s.idle),
    )

module _ (o new : Operator) (turn : InTurn o) (busy : IsSome o.course.errand) (taken : o.course.intake ≡ intakes.Nothing) where
  pub remap_in_turn : (r : Result Unit AllocError) → part_of o.course.step ≡ parts.RemapWriter → OnOk r (RemapStarts o.course.step o new) →
      OnErr r (new ≡ o) → InTurn new
  remap_in_turn r at starts same = (
    remap_begins o new turn.0 busy r starts same,
    remap_begun_own o (is_flat o.course taken) new r turn.1 at starts same,
  )

  pub data_in_turn : (r : Result Unit AllocError) → part_of o.course.step ≡ parts.DataWriter → OnOk r (DataStarts o.course.step o new) →
      OnErr r (new ≡ o) → InTurn new
  data_in_turn r at starts same = (
    data_begins o new turn.0 busy r starts same,
    data_begun_own o (is_flat o.course taken) new r turn.1 at starts same,
  )

  pub read_in_turn : part_of o.course.step ≡ parts.Reader → ReadStarts o.course.step o new → InTurn new
  read_in_turn at starts = (
    read_starts o new turn.0 busy o.course.step (of_reader o.course.step at) refl starts,
    read_own o (is_flat o.course taken) new o.course.step refl at starts,
  )
