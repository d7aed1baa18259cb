-- An operator stays sound, and follows, when one of its machines is begun or polled.
use Rattle.std.proofs.Common.{◌≡◌, ◌≢◌, ℕ, true, false, Bool, Option, Some, None, sym, ap, subst, ◌∙◌, inl, inr}
use Rattle.std.specs.Prelude.{◌⊎◌, IfSome, IsSome}
use Rattle.store_core.specs.declared.calls.Call.{Call}
use Rattle.store_core.specs.declared.replies.Reply.{Reply}
use Rattle.store_core.specs.Histories.{History}
use Rattle.state_core.specs.Steps.{acts_for}
use Rattle.history_core.specs.declared.asked.Asked.{Asked}
use Rattle.history_core.specs.declared.read_answers.ReadAnswer.{ReadAnswer}
use Rattle.history_core.specs.declared.write_answers.WriteAnswer.{WriteAnswer}
use Rattle.load_core.specs.declared.polls.Poll.{Poll}
use Rattle.machine_core.specs.Machines.{IsReading}
use Rattle.machine_core.specs.Polling.{FollowsWhere}
use Rattle.read_client.specs.declared.readers.Reader.{Reader}
use Rattle.read_client.specs.Machining as reads
use Rattle.read_client.specs.Reading as readers
use Rattle.try_machine.specs.declared.tryers.Tryer.{Tryer}
use Rattle.try_machine.specs.Tryers as tryers
use Rattle.write_client.specs.declared.writers.Writer.{Writer}
use Rattle.write_client.specs.Machining as writes
use Rattle.write_client.specs.Writing as writers
use Rattle.write_client.specs.Following.{Spares}
use Rattle.reclock_client.specs.declared.courses.Course.{Course}
use Rattle.reclock_client.specs.declared.errands.Errand.{Errand}
use Rattle.reclock_client.specs.declared.looks.Look.{Look}
use Rattle.reclock_client.specs.declared.operators.Operator.{Operator}
use Rattle.reclock_client.specs.declared.steps.Part.TheVariants as parts
use Rattle.reclock_client.specs.declared.steps.Step.{Step}
use Rattle.reclock_client.specs.Looking as looks
use Rattle.reclock_client.specs.Looking.{looking}
use Rattle.reclock_client.specs.Operators.{AreSound, Follows, IdleBy, IsChange, IsCourse, IsSound, OthersRest, Rests}
use Rattle.reclock_client.specs.Operators.{part_of}
use Rattle.reclock_client.proofs.Beginnings.{others}
use Rattle.reclock_client.proofs.Passing.{Made, Passed, looker_follows, reader_follows, writer_follows}
use Rattle.reclock_client.proofs.Sparing.{elsewhere_spares, nobodys_spares, reader_on, reader_spares, reading_spares, trying_sets, writer_sets}

rests_leave : (r : Reader) (moment lease : ℕ) (X : Type 0) → (r.asked ≡ None) ⊎ (r ≡ readers.opened (readers.shard_of r) moment lease) →
    IfSome r.asked (λ asked. IsChange asked → X)
rests_leave r moment lease X (inl idle) = subst (λ (a : Option Asked). IfSome a (λ asked. IsChange asked → X)) (sym idle) tt
rests_leave r moment lease X (inr is) = subst (λ (a : Option Asked). IfSome a (λ asked. IsChange asked → X))
    (sym (ap (λ (q : Reader). q.asked) is)) (λ h. absurd h)

busy_idle : (o : Operator) (e : Option Errand) (joined : Bool) → IsSome e → IdleBy o e joined
busy_idle o None joined some = absurd (let bad : false ≡ true = some in cc)
busy_idle o (Some errand) joined some = tt

idle_of : (o : Operator) (e : Option Errand) (joined : Bool) → IdleBy o None true → IdleBy o e joined
idle_of o None true rest = rest
idle_of o None false rest = tt
idle_of o (Some errand) joined rest = tt

-- all machines rest
resting : (o : Operator) → AreSound o.remap o.data_shard o.remap_writer o.reader o.data_writer o.looker → IsCourse o.course →
    IdleBy o None true → IsSound o
resting o m c rest = record {
  machines = m;
  course = c;
  rest = others o (part_of o.course.step) rest;
  idle = idle_of o o.course.errand o.course.joined rest;
  leaves = rests_leave o.reader o.moment o.lease (o.remap_writer.member ≡ None) rest.1;
}

module _ (o : Operator) (s : IsSound o) (busy : IsSome o.course.errand) where
  -- ---- a command begins, or goes on

  pub remap_begun : (w : Writer) (step : Step) (n : ℕ) → part_of o.course.step ≡ parts.RemapWriter → part_of step ≡ parts.RemapWriter →
      writers.IsSound w → writers.shard_of w ≡ o.remap → IsSound (record o { remap_writer = w; course = record o.course { step = step }; calls = n })
  remap_begun w step n turn there sound shard =
      let new : Operator = record o { remap_writer = w; course = record o.course { step = step }; calls = n } in
      let rest : OthersRest o parts.RemapWriter = subst (OthersRest o) turn s.rest in
      let m = s.machines in
      record {
        machines = record {
          remap_writer = sound;
          reader = m.reader;
          data_writer = m.data_writer;
          looker = m.looker;
          writes_remap = shard;
          reads_remap = m.reads_remap;
          writes_data = m.writes_data;
          looks_data = m.looks_data;
          apart = m.apart;
        };
        course = record { raise = s.course.raise; light = s.course.light };
        rest = subst (OthersRest new) (sym there) rest;
        idle = busy_idle new o.course.errand o.course.joined busy;
        leaves = rests_leave o.reader o.moment o.lease (w.member ≡ None) rest.0;
      }

  pub data_begun : (w : Writer) (step : Step) (n : ℕ) → part_of o.course.step ≡ parts.DataWriter → part_of step ≡ parts.DataWriter →
      writers.IsSound w → writers.shard_of w ≡ o.data_shard →
      IsSound (record o { data_writer = w; course = record o.course { step = step }; calls = n })
  data_begun w step n turn there sound shard =
      let new : Operator = record o { data_writer = w; course = record o.course { step = step }; calls = n } in
      let rest : OthersRest o parts.DataWriter = subst (OthersRest o) turn s.rest in
      let m = s.machines in
      record {
        machines = record {
          remap_writer = m.remap_writer;
          reader = m.reader;
          data_writer = sound;
          looker = m.looker;
          writes_remap = m.writes_remap;
          reads_remap = m.reads_remap;
          writes_data = shard;
          looks_data = m.looks_data;
          apart = m.apart;
        };
        course = record { raise = s.course.raise; light = s.course.light };
        rest = subst (OthersRest new) (sym there) rest;
        idle = busy_idle new o.course.errand o.course.joined busy;
        leaves = s.leaves;
      }

  -- with a writer of the remap shard that rests
  pub reader_begun : (w : Writer) (r : Reader) (n : ℕ) → part_of o.course.step ≡ parts.Reader → writers.IsSound w → Rests w →
      writers.shard_of w ≡ o.remap → readers.IsSound r → readers.shard_of r ≡ o.remap →
      IfSome r.asked (λ asked. IsChange asked → w.member ≡ None) → IsSound (record o { remap_writer = w; reader = r; calls = n })
  reader_begun w r n turn of_writer rests at_remap sound shard leaves =
      let rest : OthersRest o parts.Reader = subst (OthersRest o) turn s.rest in
      let m = s.machines in
      let new : Operator = record o { remap_writer = w; reader = r; calls = n } in
      let now : OthersRest new parts.Reader = (rests, rest.1, rest.2) in
      record {
        machines = record {
          remap_writer = of_writer;
          reader = sound;
          data_writer = m.data_writer;
          looker = m.looker;
          writes_remap = at_remap;
          reads_remap = shard;
          writes_data = m.writes_data;
          looks_data = m.looks_data;
          apart = m.apart;
        };
        course = s.course;
        rest = subst (OthersRest new) (sym turn) now;
        idle = busy_idle new o.course.errand o.course.joined busy;
        leaves = leaves;
      }

  pub looker_begun : (l : Tryer Look) (n : ℕ) → part_of o.course.step ≡ parts.Looker → tryers.IsSound looking l →
      l.trying.loader.shard ≡ o.data_shard → IsSound (record o { looker = l; calls = n })
  looker_begun l n turn sound shard =
      let new : Operator = record o { looker = l; calls = n } in
      let rest : OthersRest o parts.Looker = subst (OthersRest o) turn s.rest in
      let m = s.machines in
      record {
        machines = record {
          remap_writer = m.remap_writer;
          reader = m.reader;
          data_writer = m.data_writer;
          looker = sound;
          writes_remap = m.writes_remap;
          reads_remap = m.reads_remap;
          writes_data = m.writes_data;
          looks_data = shard;
          apart = m.apart;
        };
        course = s.course;
        rest = subst (OthersRest new) (sym turn) rest;
        idle = busy_idle new o.course.errand o.course.joined busy;
        leaves = s.leaves;
      }

  -- ---- a poll: the command goes on, or its machine rests

  pub remap_polled : (w : Writer) (c : Course) (n : ℕ) → part_of o.course.step ≡ parts.RemapWriter → writers.IsSound w →
      writers.shard_of w ≡ o.remap → IsCourse c → ((c ≡ o.course) × (w.asked ≡ o.remap_writer.asked)) ⊎ (w.asked ≡ None) →
      IsSound (record o { remap_writer = w; course = c; calls = n })
  remap_polled w c n turn sound shard course (inl (same, still)) =
      subst (λ (x : Course). IsSound (record o { remap_writer = w; course = x; calls = n })) (sym same)
      (remap_begun w o.course.step n turn turn sound shard)
  remap_polled w c n turn sound shard course (inr idle) =
      let rest : OthersRest o parts.RemapWriter = subst (OthersRest o) turn s.rest in
      resting (record o { remap_writer = w; course = c; calls = n }) (remap_begun w o.course.step n turn turn sound shard).machines course
      (inl idle, rest.0, rest.1, rest.2)

  pub data_polled : (w : Writer) (c : Course) (n : ℕ) → part_of o.course.step ≡ parts.DataWriter → writers.IsSound w →
      writers.shard_of w ≡ o.data_shard → IsCourse c → ((c ≡ o.course) × (w.asked ≡ o.data_writer.asked)) ⊎ (w.asked ≡ None) →
      IsSound (record o { data_writer = w; course = c; calls = n })
  data_polled w c n turn sound shard course (inl (same, still)) =
      subst (λ (x : Course). IsSound (record o { data_writer = w; course = x; calls = n })) (sym same)
      (data_begun w o.course.step n turn turn sound shard)
  data_polled w c n turn sound shard course (inr idle) =
      let rest : OthersRest o parts.DataWriter = subst (OthersRest o) turn s.rest in
      resting (record o { data_writer = w; course = c; calls = n }) (data_begun w o.course.step n turn turn sound shard).machines course
      (rest.0, rest.1, inl idle, rest.2)

  pub looker_polled : (l : Tryer Look) (c : Course) (n : ℕ) → part_of o.course.step ≡ parts.Looker → tryers.IsSound looking l →
      l.trying.loader.shard ≡ o.data_shard → IsCourse c → (c ≡ o.course) ⊎ (l.asked ≡ None) →
      IsSound (record o { looker = l; course = c; calls = n })
  looker_polled l c n turn sound shard course (inl same) =
      subst (λ (x : Course). IsSound (record o { looker = l; course = x; calls = n })) (sym same) (looker_begun l n turn sound shard)
  looker_polled l c n turn sound shard course (inr idle) =
      let rest : OthersRest o parts.Looker = subst (OthersRest o) turn s.rest in
      resting (record o { looker = l; course = c; calls = n }) (looker_begun l n turn sound shard).machines course
      (rest.0, rest.1, rest.2, idle)

  -- the same command of the reader stays open
  pub reader_goes_on : (r : Reader) (n : ℕ) → part_of o.course.step ≡ parts.Reader → readers.IsSound r → readers.shard_of r ≡ o.remap →
      r.asked ≡ o.reader.asked → IsSound (record o { reader = r; calls = n })
  reader_goes_on r n turn sound shard same =
      let rest : OthersRest o parts.Reader = subst (OthersRest o) turn s.rest in
      reader_begun o.remap_writer r n turn s.machines.remap_writer rest.0 s.machines.writes_remap sound shard
      (subst (λ (a : Option Asked). IfSome a (λ asked. IsChange asked → o.remap_writer.member ≡ None)) (sym same) s.leaves)

  pub reader_polled : (r : Reader) (c : Course) (n : ℕ) → part_of o.course.step ≡ parts.Reader → readers.IsSound r →
      readers.shard_of r ≡ o.remap → IsCourse c → ((c ≡ o.course) × (r.asked ≡ o.reader.asked)) ⊎ (r.asked ≡ None) →
      IsSound (record o { reader = r; course = c; calls = n })
  reader_polled r c n turn sound shard course (inl (same, still)) =
      subst (λ (x : Course). IsSound (record o { reader = r; course = x; calls = n })) (sym same) (reader_goes_on r n turn sound shard still)
  reader_polled r c n turn sound shard course (inr idle) =
      let rest : OthersRest o parts.Reader = subst (OthersRest o) turn s.rest in
      let none = subst (λ (a : Option Asked). IfSome a (λ asked. IsChange asked → o.remap_writer.member ≡ None)) (sym idle) tt in
      resting (record o { reader = r; course = c; calls = n })
      (reader_begun o.remap_writer r n turn s.machines.remap_writer rest.0 s.machines.writes_remap sound shard none).machines course
      (rest.0, inl idle, rest.1, rest.2)

-- ---- what it follows by

module _ (client : ℕ) (front now : Option History) (o : Operator) (s : IsSound o) (f : Follows client front o) (c : Course) (n : ℕ) where
  apart : writers.shard_of o.remap_writer ≢ writers.shard_of o.data_writer
  apart = λ e. s.machines.apart (sym s.machines.writes_remap ∙ e ∙ s.machines.writes_data)

  pub remap_follows : (w : Writer) → part_of o.course.step ≡ parts.RemapWriter → writers.IsOpen o.remap_writer →
      Passed client front now (Made writes.machine o.remap_writer) → FollowsWhere writes.machine client now w →
      Follows client now (record o { remap_writer = w; course = c; calls = n })
  remap_follows w turn is_open p own =
      let rest : OthersRest o parts.RemapWriter = subst (OthersRest o) turn s.rest in
      record {
        remap_writer = own;
        reader = reader_follows client front now (Made writes.machine o.remap_writer) o.reader o.moment o.lease rest.0 p f.reader;
        data_writer = writer_follows client front now (Made writes.machine o.remap_writer) o.data_writer rest.1 spares p f.data_writer;
        looker = looker_follows client front now (Made writes.machine o.remap_writer) o.looker rest.2 p f.looker;
      }
    where
      spares : (call : Call) → Made writes.machine o.remap_writer call → Spares o.data_writer call
      spares call m = by m.did
        where
          by : IsReading call ⊎ ((r : Reply) × (poll : Poll WriteAnswer) × writes.Did (writes.kept o.remap_writer) call r poll) →
              Spares o.data_writer call
          by (inl reads) = reading_spares o.data_writer call reads
          by (inr (r, poll, did)) = elsewhere_spares o.data_writer (writers.shard_of o.remap_writer) o.remap_writer.storing.trying.step call
              apart did.carries (writer_sets o.remap_writer m.ready call s.machines.remap_writer is_open m.prepares m.call_is)

  pub data_follows : (w : Writer) → part_of o.course.step ≡ parts.DataWriter → writers.IsOpen o.data_writer →
      Passed client front now (Made writes.machine o.data_writer) → FollowsWhere writes.machine client now w →
      Follows client now (record o { data_writer = w; course = c; calls = n })
  data_follows w turn is_open p own =
      let rest : OthersRest o parts.DataWriter = subst (OthersRest o) turn s.rest in
      record {
        remap_writer = writer_follows client front now (Made writes.machine o.data_writer) o.remap_writer rest.0 spares p f.remap_writer;
        reader = reader_follows client front now (Made writes.machine o.data_writer) o.reader o.moment o.lease rest.1 p f.reader;
        data_writer = own;
        looker = looker_follows client front now (Made writes.machine o.data_writer) o.looker rest.2 p f.looker;
      }
    where
      spares : (call : Call) → Made writes.machine o.data_writer call → Spares o.remap_writer call
      spares call m = by m.did
        where
          by : IsReading call ⊎ ((r : Reply) × (poll : Poll WriteAnswer) × writes.Did (writes.kept o.data_writer) call r poll) →
              Spares o.remap_writer call
          by (inl reads) = reading_spares o.remap_writer call reads
          by (inr (r, poll, did)) = elsewhere_spares o.remap_writer (writers.shard_of o.data_writer) o.data_writer.storing.trying.step call
              (λ e. apart (sym e)) did.carries
              (writer_sets o.data_writer m.ready call s.machines.data_writer is_open m.prepares m.call_is)

  pub read_follows : (r : Reader) → part_of o.course.step ≡ parts.Reader → readers.IsOpen o.reader →
      Passed client front now (Made reads.machine o.reader) → FollowsWhere reads.machine client now r →
      Follows client now (record o { reader = r; course = c; calls = n })
  read_follows r turn is_open p own =
      let rest : OthersRest o parts.Reader = subst (OthersRest o) turn s.rest in
      record {
        remap_writer = writer_follows client front now (Made reads.machine o.reader) o.remap_writer rest.0 spares_remap p f.remap_writer;
        reader = own;
        data_writer = writer_follows client front now (Made reads.machine o.reader) o.data_writer rest.1 spares_data p f.data_writer;
        looker = looker_follows client front now (Made reads.machine o.reader) o.looker rest.2 p f.looker;
      }
    where
      away : readers.shard_of o.reader ≢ writers.shard_of o.data_writer
      away = λ e. s.machines.apart (sym s.machines.reads_remap ∙ e ∙ s.machines.writes_data)

      spares_remap : (call : Call) → Made reads.machine o.reader call → Spares o.remap_writer call
      spares_remap call m = by m.did
        where
          by : IsReading call ⊎ ((r : Reply) × (poll : Poll ReadAnswer) × reads.Did (reads.kept o.reader) call r poll) →
              Spares o.remap_writer call
          by (inl changes_none) = reading_spares o.remap_writer call changes_none
          by (inr (r, poll, did)) = reader_spares o.remap_writer o.reader m.ready call s.machines.reader is_open m.prepares m.call_is
              did.carries s.leaves

      spares_data : (call : Call) → Made reads.machine o.reader call → Spares o.data_writer call
      spares_data call m = by m.did
        where
          by : IsReading call ⊎ ((r : Reply) × (poll : Poll ReadAnswer) × reads.Did (reads.kept o.reader) call r poll) →
              Spares o.data_writer call
          by (inl changes_none) = reading_spares o.data_writer call changes_none
          by (inr (r, poll, did)) = elsewhere_spares o.data_writer (readers.shard_of o.reader) o.reader.trying.step call away did.carries
              (reader_on (readers.shard_of o.reader) m.ready call m.call_is)

  pub look_follows : (l : Tryer Look) → part_of o.course.step ≡ parts.Looker → IsSome o.looker.asked →
      Passed client front now (Made looks.machine o.looker) → FollowsWhere looks.machine client now l →
      Follows client now (record o { looker = l; course = c; calls = n })
  look_follows l turn is_open p own =
      let rest : OthersRest o parts.Looker = subst (OthersRest o) turn s.rest in
      record {
        remap_writer = writer_follows client front now (Made looks.machine o.looker) o.remap_writer rest.0 (spares o.remap_writer) p
            f.remap_writer;
        reader = reader_follows client front now (Made looks.machine o.looker) o.reader o.moment o.lease rest.1 p f.reader;
        data_writer = writer_follows client front now (Made looks.machine o.looker) o.data_writer rest.2 (spares o.data_writer) p
            f.data_writer;
        looker = own;
      }
    where
      step_is : (a : Option Look) → IsSome a → IfSome a (tryers.SoundBy looking o.looker.trying) → acts_for o.looker.trying.step ≡ None
      step_is None some k = absurd (let bad : false ≡ true = some in cc)
      step_is (Some r) some k = ap acts_for k.step_is

      spares : (w : Writer) (call : Call) → Made looks.machine o.looker call → Spares w call
      spares w call m = by m.did
        where
          by : IsReading call ⊎ ((r : Reply) × (poll : Poll (Option ℕ)) × tryers.Did (tryers.kept looking o.looker) call r poll) →
              Spares w call
          by (inl reads) = reading_spares w call reads
          by (inr (r, poll, did)) = nobodys_spares w o.looker.trying.loader.shard o.looker.trying.step call
              (step_is o.looker.asked is_open s.machines.looker.asked) did.carries (trying_sets m.ready.trying call m.call_is)
