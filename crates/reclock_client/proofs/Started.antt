-- What the beginning of an inner command leaves of an operator.
use Rattle.std.proofs.Common.{◌≡◌, ℕ, Option, Some, None, Result, Ok, Err, List, refl, sym, ap, subst, ◌∙◌, inr}
use Rattle.std.specs.Prelude.{IfSome, IsSome, OnErr, OnOk}
use Rattle.std.specs.declared.alloc.AllocError.{AllocError}
use Rattle.update_core.specs.declared.updates.Update.{Update}
use Rattle.update_core.specs.Frontiers.{after}
use Rattle.state_core.specs.declared.transitions.Transition.TheVariants.{Leave}
use Rattle.history_core.specs.declared.asked.Asked.{Asked}
use Rattle.history_core.specs.declared.asked.Asked.TheVariants as asks
use Rattle.read_client.specs.declared.readers.Reader.{Reader}
use Rattle.read_client.specs.Beginning.{BeginsRead, Changing}
use Rattle.read_client.specs.Reading as readers
use Rattle.write_client.specs.declared.writers.Writer.{Writer}
use Rattle.write_client.specs.Beginning.{Closing}
use Rattle.write_client.specs.Writing as writers
use Rattle.reclock_client.specs.declared.courses.Course.{Course}
use Rattle.reclock_client.specs.declared.operators.Operator.{Operator}
use Rattle.reclock_client.specs.declared.starting.Begun.{Begun}
use Rattle.reclock_client.specs.declared.starting.Begun.TheVariants as begun
use Rattle.reclock_client.specs.declared.steps.Part.TheVariants as parts
use Rattle.reclock_client.specs.declared.steps.Step.{Step}
use Rattle.reclock_client.specs.declared.steps.Step.TheVariants as steps
use Rattle.reclock_client.specs.Operators.{IsChange, IsSound, OthersRest, Rests, part_of}
use Rattle.reclock_client.specs.Minting.{mint_rows, slice_rows}
use Rattle.reclock_client.specs.Polling.{BeginsAppend, DataBegun, DataStarts, ReadStarts, RemapBegun, RemapStarts}
use Rattle.reclock_client.proofs.Standing.{data_begun, reader_begun, remap_begun}

-- ---- a writer is of the same shard

leave_shard : (old new : Writer) → Closing old new → writers.shard_of new ≡ writers.shard_of old
leave_shard old new (member, is, after) = ap writers.shard_of after

append_shard : (rows : Option (List Update × Option ℕ)) (from : ℕ) (old new : Writer) (b : Begun) →
    BeginsAppend rows from old new (Ok b) → writers.shard_of new ≡ writers.shard_of old
append_shard None from old new b begins = absurd begins
append_shard (Some rows) from old new begun.Yes (free, a) = ap writers.shard_of a.after
append_shard (Some rows) from old new begun.Spent (spent, same) = ap writers.shard_of same

-- ---- the remap shard's writer

record RemapForm (o new : Operator) : Type 0 where
  pub step : Step
  pub turn : part_of step ≡ parts.RemapWriter
  pub shard : writers.shard_of new.remap_writer ≡ o.remap
  pub is : new ≡ record o { remap_writer = new.remap_writer; course = record o.course { step = step } }

remap_same : (o new : Operator) (w : Writer) → part_of o.course.step ≡ parts.RemapWriter → writers.shard_of w ≡ o.remap →
    new ≡ record o { remap_writer = w } → RemapForm o new
remap_same o new w turn shard is = let same : new.remap_writer ≡ w = ap (λ (x : Operator). x.remap_writer) is in record {
  step = o.course.step;
  turn = turn;
  shard = ap writers.shard_of same ∙ shard;
  is = is ∙ ap (λ (v : Writer). let y : Operator = record o { remap_writer = v } in y) (sym same);
}

remap_after : (o new : Operator) (w : Writer) (b : Begun) → part_of o.course.step ≡ parts.RemapWriter →
    writers.shard_of w ≡ o.remap → RemapBegun b (record o { remap_writer = w }) new → RemapForm o new
remap_after o new w begun.Yes turn shard is = remap_same o new w turn shard is
remap_after o new w begun.Spent turn shard (leaves, is) = record {
  step = steps.LeaveRemap;
  turn = refl;
  shard = leave_shard w new.remap_writer leaves ∙ shard;
  is = is;
}

remap_form : (o new : Operator) (step : Step) → IsSound o → part_of o.course.step ≡ parts.RemapWriter →
    RemapStarts step o new → RemapForm o new
remap_form o new steps.JoinRemap s turn is = remap_same o new (writers.opened o.remap) turn refl is
remap_form o new (steps.AppendRemap from) s turn (w, b, begins, then_) = remap_after o new w b turn
    (append_shard (mint_rows o.course.bindings o.course.errand) from o.remap_writer w b begins ∙ s.machines.writes_remap) then_
remap_form o new other s turn k = record {
  step = o.course.step;
  turn = turn;
  shard = leave_shard o.remap_writer new.remap_writer k.0 ∙ s.machines.writes_remap;
  is = k.1;
}

-- ---- the data shard's writer

record DataForm (o new : Operator) : Type 0 where
  pub step : Step
  pub turn : part_of step ≡ parts.DataWriter
  pub shard : writers.shard_of new.data_writer ≡ o.data_shard
  pub is : new ≡ record o { data_writer = new.data_writer; course = record o.course { step = step } }

data_same : (o new : Operator) (w : Writer) → part_of o.course.step ≡ parts.DataWriter → writers.shard_of w ≡ o.data_shard →
    new ≡ record o { data_writer = w } → DataForm o new
data_same o new w turn shard is = let same : new.data_writer ≡ w = ap (λ (x : Operator). x.data_writer) is in record {
  step = o.course.step;
  turn = turn;
  shard = ap writers.shard_of same ∙ shard;
  is = is ∙ ap (λ (v : Writer). let y : Operator = record o { data_writer = v } in y) (sym same);
}

data_after : (o new : Operator) (w : Writer) (b : Begun) → part_of o.course.step ≡ parts.DataWriter →
    writers.shard_of w ≡ o.data_shard → DataBegun b (record o { data_writer = w }) new → DataForm o new
data_after o new w begun.Yes turn shard is = data_same o new w turn shard is
data_after o new w begun.Spent turn shard (leaves, is) = record {
  step = steps.LeaveData;
  turn = refl;
  shard = leave_shard w new.data_writer leaves ∙ shard;
  is = is;
}

data_form : (o new : Operator) (step : Step) → IsSound o → part_of o.course.step ≡ parts.DataWriter →
    DataStarts step o new → DataForm o new
data_form o new steps.JoinData s turn is = data_same o new (writers.opened o.data_shard) turn refl is
data_form o new (steps.AppendData from) s turn (w, b, begins, then_) = data_after o new w b turn
    (append_shard (slice_rows o.course.bindings o.course.synced o.course.errand from) from o.data_writer w b begins ∙
    s.machines.writes_data) then_
data_form o new other s turn k = record {
  step = o.course.step;
  turn = turn;
  shard = leave_shard o.data_writer new.data_writer k.0 ∙ s.machines.writes_data;
  is = k.1;
}

-- ---- the reader

record Reads (old new : Reader) (X : Type 0) : Type 0 where
  pub shard : readers.shard_of new ≡ readers.shard_of old
  pub leaves : IfSome new.asked (λ asked. IsChange asked → X)

read_begins : (asked : Asked) (listen : Option (Option ℕ)) (old new : Reader) (X : Type 0) → ¬ IsChange asked →
    BeginsRead old asked listen new → Reads old new X
read_begins asked listen old new X reads after = record {
  shard = ap readers.shard_of after;
  leaves = subst (λ (a : Option Asked). IfSome a (λ asked. IsChange asked → X)) (sym (ap (λ (r : Reader). r.asked) after))
      (λ h. absurd (reads h));
}

leave_reads : (old new : Reader) (X : Type 0) → X → Changing old asks.CloseReader (λ member. Leave member) new → Reads old new X
leave_reads old new X x (member, is, after) = record {
  shard = ap readers.shard_of after;
  leaves = subst (λ (a : Option Asked). IfSome a (λ asked. IsChange asked → X)) (sym (ap (λ (r : Reader). r.asked) after)) (λ h. x);
}

record ReadForm (o new : Operator) : Type 0 where
  pub rests : Rests new.remap_writer
  pub at_remap : writers.shard_of new.remap_writer ≡ o.remap
  pub shard : readers.shard_of new.reader ≡ o.remap
  pub leaves : IfSome new.reader.asked (λ asked. IsChange asked → new.remap_writer.member ≡ None)
  pub is : new ≡ record o { remap_writer = new.remap_writer; reader = new.reader }

-- a reading begins, with the same writer
read_on : (o new : Operator) → IsSound o → Rests o.remap_writer → new ≡ record o { reader = new.reader } →
    Reads o.reader new.reader (o.remap_writer.member ≡ None) → ReadForm o new
read_on o new s rests is k =
    let same : new.remap_writer ≡ o.remap_writer = ap (λ (x : Operator). x.remap_writer) is in
    record {
      rests = subst Rests (sym same) rests;
      at_remap = ap writers.shard_of same ∙ s.machines.writes_remap;
      shard = k.shard ∙ s.machines.reads_remap;
      leaves = subst (λ (w : Writer). IfSome new.reader.asked (λ asked. IsChange asked → w.member ≡ None)) (sym same) k.leaves;
      is = is ∙ ap (λ (w : Writer). let y : Operator = record o { remap_writer = w; reader = new.reader } in y) (sym same);
    }

read_form : (o new : Operator) (step : Step) → IsSound o → Rests o.remap_writer → ReadStarts step o new → ReadForm o new
read_form o new steps.JoinReader s rests is =
    let reader_is : new.reader ≡ readers.opened o.remap o.moment o.lease = ap (λ (x : Operator). x.reader) is in
    read_on o new s rests (is ∙ ap (λ (r : Reader). let y : Operator = record o { reader = r } in y) (sym reader_is)) (record {
      shard = ap readers.shard_of reader_is ∙ sym s.machines.reads_remap;
      leaves = subst (λ (r : Reader). IfSome r.asked (λ asked. IsChange asked → o.remap_writer.member ≡ None)) (sym reader_is)
          (λ h. absurd h);
    })
read_form o new steps.Snapshot s rests (starts, is) = read_on o new s rests is
    (read_begins (asks.Snapshot o.course.since) o.reader.listen o.reader new.reader (o.remap_writer.member ≡ None) (λ h. h) starts)
read_form o new steps.Listen s rests (starts, is) = read_on o new s rests is
    (read_begins (asks.Listen o.course.since) (Some (after o.course.since)) o.reader new.reader (o.remap_writer.member ≡ None)
    (λ h. h) starts)
read_form o new steps.Next s rests (starts, is) = read_on o new s rests is
    (read_begins asks.Next o.reader.listen o.reader new.reader (o.remap_writer.member ≡ None) (λ h. h) starts)
read_form o new other s rests (starts, is) =
    let writer_is : new.remap_writer ≡ writers.opened o.remap = ap (λ (x : Operator). x.remap_writer) is in
    let none : new.remap_writer.member ≡ None = ap (λ (w : Writer). w.member) writer_is in
    let shard : writers.shard_of new.remap_writer ≡ o.remap = ap writers.shard_of writer_is in
    let k = leave_reads o.reader new.reader (new.remap_writer.member ≡ None) none starts in
    record {
      rests = inr (writer_is ∙ ap writers.opened (sym shard));
      at_remap = shard;
      shard = k.shard ∙ s.machines.reads_remap;
      leaves = k.leaves;
      is = is ∙ ap (λ (w : Writer). let y : Operator = record o { remap_writer = w; reader = new.reader } in y) (sym writer_is);
    }

-- ---- an operator whose inner command has begun

-- it is sound, and only the step of its course may be another
pub record Ready (o new : Operator) : Type 0 where
  pub sound : IsSound new
  pub course : new.course ≡ record o.course { step = new.course.step }

stepped : (o new : Operator) (step : Step) → new.course ≡ record o.course { step = step } →
    new.course ≡ record o.course { step = new.course.step }
stepped o new step e = e ∙ ap (λ (x : Step). let c : Course = record o.course { step = x } in c) (sym (ap (λ (c : Course). c.step) e))

refused : (o new : Operator) → IsSound o → new ≡ o → Ready o new
refused o new s same = record {
  sound = subst IsSound (sym same) s;
  course = stepped o new o.course.step (ap (λ (x : Operator). x.course) same);
}

module _ (o new : Operator) (s : IsSound o) (busy : IsSome o.course.errand) where
  pub remap_ready : (r : Result Unit AllocError) → part_of o.course.step ≡ parts.RemapWriter →
      OnOk r (RemapStarts o.course.step o new) → OnErr r (new ≡ o) → writers.IsSound new.remap_writer → Ready o new
  remap_ready (Err e) turn starts same sound = refused o new s same
  remap_ready (Ok done) turn starts same sound = let f = remap_form o new o.course.step s turn starts in record {
    sound = subst IsSound (sym f.is) (remap_begun o s busy new.remap_writer f.step o.calls turn f.turn sound f.shard);
    course = stepped o new f.step (ap (λ (x : Operator). x.course) f.is);
  }

  pub data_ready : (r : Result Unit AllocError) → part_of o.course.step ≡ parts.DataWriter →
      OnOk r (DataStarts o.course.step o new) → OnErr r (new ≡ o) → writers.IsSound new.data_writer → Ready o new
  data_ready (Err e) turn starts same sound = refused o new s same
  data_ready (Ok done) turn starts same sound = let f = data_form o new o.course.step s turn starts in record {
    sound = subst IsSound (sym f.is) (data_begun o s busy new.data_writer f.step o.calls turn f.turn sound f.shard);
    course = stepped o new f.step (ap (λ (x : Operator). x.course) f.is);
  }

  pub read_ready : part_of o.course.step ≡ parts.Reader → ReadStarts o.course.step o new → writers.IsSound new.remap_writer →
      readers.IsSound new.reader → Ready o new
  read_ready turn starts of_writer sound =
      let rest : OthersRest o parts.Reader = subst (OthersRest o) turn s.rest in
      let f = read_form o new o.course.step s rest.0 starts in
      record {
        sound = subst IsSound (sym f.is)
            (reader_begun o s busy new.remap_writer new.reader o.calls turn of_writer f.rests f.at_remap sound f.shard f.leaves);
        course = stepped o new o.course.step (ap (λ (x : Operator). x.course) f.is);
      }
