-- After a poll the open inner command of an operator's step is still the one that the step names.
use Rattle.std.proofs.Common.{◌≡◌, ℕ, Option, None, sym, ap, subst, inl, inr}
use Rattle.std.specs.Prelude.{◌⊎◌, IfSome}
use Rattle.store_core.specs.Histories.{History}
use Rattle.history_core.specs.declared.asked.Asked.{Asked}
use Rattle.history_core.specs.declared.read_answers.ReadAnswer.{ReadAnswer}
use Rattle.history_core.specs.declared.write_answers.WriteAnswer.{WriteAnswer}
use Rattle.load_core.specs.declared.polls.Poll.{Poll}
use Rattle.machine_core.specs.Polling.{Polled, Unpolled}
use Rattle.read_client.specs.declared.readers.Reader.{Reader}
use Rattle.read_client.specs.Machining as reads
use Rattle.try_machine.specs.declared.tryers.Tryer.{Tryer}
use Rattle.write_client.specs.declared.writers.Writer.{Writer}
use Rattle.write_client.specs.Machining as writes
use Rattle.reclock_client.specs.declared.courses.Course.{Course}
use Rattle.reclock_client.specs.declared.looks.Look.{Look}
use Rattle.reclock_client.specs.declared.operators.Operator.{Operator}
use Rattle.reclock_client.specs.declared.steps.Part.TheVariants as parts
use Rattle.reclock_client.specs.Asking.{AsksAt, AsksOwn, asks_of, duties}
use Rattle.reclock_client.specs.Commands.{after_data_writer, after_poll, after_reader, after_remap_writer, published_from}
use Rattle.reclock_client.specs.Looking as looks
use Rattle.reclock_client.specs.Operators.{IsSound, OthersRest, part_of}
use Rattle.reclock_client.specs.Turns.{AtStep}
use Rattle.reclock_client.proofs.Endings.{look_over, reader_over, writer_over}
use Rattle.reclock_client.proofs.Owning.{fresh_own}

module _ (client : ℕ) (front now : Option History) (o : Operator) (s : IsSound o) (own : AsksOwn o) (c : Course) (n : ℕ) where
  pub remap_own_polled : (w : Writer) (p : Poll WriteAnswer) → part_of o.course.step ≡ parts.RemapWriter →
      Polled writes.machine client front now o.remap_writer w p → c ≡ (after_poll
      (after_remap_writer o.course o.course.step) o.course p).0 →
      IsSound (record o { remap_writer = w; course = c; calls = n }) → AtStep (record o { remap_writer = w; course = c; calls = n }) →
      AsksOwn (record o { remap_writer = w; course = c; calls = n })
  remap_own_polled w p turn polled is sound in_turn =
      by (writer_over client front now o.remap_writer w (after_remap_writer o.course o.course.step) o.course c p is polled)
    where
      rest : OthersRest o parts.RemapWriter
      rest = subst (OthersRest o) turn s.rest

      by : ((c ≡ o.course) × (w.asked ≡ o.remap_writer.asked)) ⊎ (w.asked ≡ None) →
          AsksOwn (record o { remap_writer = w; course = c; calls = n })
      by (inl (same, still)) = subst (λ (x : Course). AsksOwn (record o { remap_writer = w; course = x; calls = n })) (sym same)
          (subst (λ (a : Option Asked). IfSome o.course.errand (λ errand. AsksAt (record (asks_of o) { remap_writer = a })
          (duties o) o.course.step
          (part_of o.course.step))) (sym still) own)
      by (inr idle) = fresh_own (record o { remap_writer = w; course = c; calls = n }) sound in_turn (inl idle, rest.0, rest.1, rest.2)

  pub data_own_polled : (w : Writer) (p : Poll WriteAnswer) → part_of o.course.step ≡ parts.DataWriter →
      Polled writes.machine client front now o.data_writer w p → c ≡ (after_poll (after_data_writer o.course o.course.step) o.course p).0 →
      IsSound (record o { data_writer = w; course = c; calls = n }) → AtStep (record o { data_writer = w; course = c; calls = n }) →
      AsksOwn (record o { data_writer = w; course = c; calls = n })
  data_own_polled w p turn polled is sound in_turn =
      by (writer_over client front now o.data_writer w (after_data_writer o.course o.course.step) o.course c p is polled)
    where
      rest : OthersRest o parts.DataWriter
      rest = subst (OthersRest o) turn s.rest

      by : ((c ≡ o.course) × (w.asked ≡ o.data_writer.asked)) ⊎ (w.asked ≡ None) →
          AsksOwn (record o { data_writer = w; course = c; calls = n })
      by (inl (same, still)) = subst (λ (x : Course). AsksOwn (record o { data_writer = w; course = x; calls = n })) (sym same)
          (subst (λ (a : Option Asked). IfSome o.course.errand (λ errand. AsksAt (record (asks_of o) { data_writer = a })
          (duties o) o.course.step
          (part_of o.course.step))) (sym still) own)
      by (inr idle) = fresh_own (record o { data_writer = w; course = c; calls = n }) sound in_turn (rest.0, rest.1, inl idle, rest.2)

  pub read_own_polled : (r : Reader) (p : Poll ReadAnswer) → part_of o.course.step ≡ parts.Reader →
      Polled reads.machine client front now o.reader r p → c ≡ (after_poll (after_reader o.course o.course.step) o.course p).0 →
      IsSound (record o { reader = r; course = c; calls = n }) → AtStep (record o { reader = r; course = c; calls = n }) →
      AsksOwn (record o { reader = r; course = c; calls = n })
  read_own_polled r p turn polled is sound in_turn =
      by (reader_over client front now o.reader r (after_reader o.course o.course.step) o.course c p is polled)
    where
      rest : OthersRest o parts.Reader
      rest = subst (OthersRest o) turn s.rest

      by : ((c ≡ o.course) × (r.asked ≡ o.reader.asked)) ⊎ (r.asked ≡ None) → AsksOwn (record o { reader = r; course = c; calls = n })
      by (inl (same, still)) = subst (λ (x : Course). AsksOwn (record o { reader = r; course = x; calls = n })) (sym same)
          (subst (λ (a : Option Asked). IfSome o.course.errand (λ errand. AsksAt (record (asks_of o) { reader = a })
          (duties o) o.course.step
          (part_of o.course.step))) (sym still) own)
      by (inr idle) = fresh_own (record o { reader = r; course = c; calls = n }) sound in_turn (rest.0, inl idle, rest.1, rest.2)

  pub look_own_polled : (l : Tryer Look) (p : Poll (Option ℕ)) → part_of o.course.step ≡ parts.Looker →
      Polled looks.machine client front now o.looker l p → c ≡ (after_poll (published_from o.course) o.course p).0 →
      IsSound (record o { looker = l; course = c; calls = n }) → AtStep (record o { looker = l; course = c; calls = n }) →
      AsksOwn (record o { looker = l; course = c; calls = n })
  look_own_polled l p turn polled is sound in_turn =
      by (look_over client front now o.looker l (published_from o.course) o.course c p is polled)
    where
      rest : OthersRest o parts.Looker
      rest = subst (OthersRest o) turn s.rest

      by : (c ≡ o.course) ⊎ (l.asked ≡ None) → AsksOwn (record o { looker = l; course = c; calls = n })
      by (inl same) = subst (λ (x : Course). AsksOwn (record o { looker = l; course = x; calls = n })) (sym same) own
      by (inr idle) = fresh_own (record o { looker = l; course = c; calls = n }) sound in_turn (rest.0, rest.1, rest.2, idle)

  -- want of memory leaves the command as it was
  pub remap_own_left : (w : Writer) → Unpolled writes.machine client front now o.remap_writer w → AsksOwn (record o { remap_writer = w })
  remap_own_left w u = subst (λ (a : Option Asked). IfSome o.course.errand (λ errand. AsksAt (record (asks_of o) { remap_writer = a })
      (duties o)
      o.course.step (part_of o.course.step))) (sym (ap (λ (k : writes.Kept). k.asked) u.same)) own

  pub data_own_left : (w : Writer) → Unpolled writes.machine client front now o.data_writer w → AsksOwn (record o { data_writer = w })
  data_own_left w u = subst (λ (a : Option Asked). IfSome o.course.errand (λ errand. AsksAt (record (asks_of o) { data_writer = a })
      (duties o)
      o.course.step (part_of o.course.step))) (sym (ap (λ (k : writes.Kept). k.asked) u.same)) own

  pub read_own_left : (r : Reader) → Unpolled reads.machine client front now o.reader r → AsksOwn (record o { reader = r })
  read_own_left r u = subst (λ (a : Option Asked). IfSome o.course.errand (λ errand. AsksAt (record (asks_of o) { reader = a }) (duties o)
      o.course.step (part_of o.course.step))) (sym (ap (λ (k : reads.Kept). k.asked) u.same)) own
