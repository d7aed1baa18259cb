-- An operator's turn after a poll of one of its machines.
use Rattle.std.proofs.Common.{◌≡◌, ℕ, Bool, true, false, cond, Option, Some, None, refl, sym, ap, subst, ◌∙◌, inl, inr}
use Rattle.std.specs.Prelude.{◌⊎◌, IfSome, IsSome}
use Rattle.store_core.specs.Histories.{History}
use Rattle.history_core.specs.declared.asked.Asked.{Asked}
use Rattle.history_core.specs.declared.read_answers.ReadAnswer.{ReadAnswer}
use Rattle.history_core.specs.declared.write_answers.WriteAnswer.{WriteAnswer}
use Rattle.load_core.specs.declared.polls.Poll.{Poll}
use Rattle.load_core.specs.declared.polls.Poll.TheVariants as polls
use Rattle.machine_core.specs.Polling.{Polled, Unpolled}
use Rattle.read_client.specs.declared.readers.Reader.{Reader}
use Rattle.read_client.specs.Machining as reads
use Rattle.read_client.specs.Reading as readers
use Rattle.try_machine.specs.declared.tryers.Tryer.{Tryer}
use Rattle.write_client.specs.declared.writers.Writer.{Writer}
use Rattle.write_client.specs.Machining as writes
use Rattle.write_client.specs.Writing as writers
use Rattle.reclock_client.specs.declared.courses.Course.{Course}
use Rattle.reclock_client.specs.declared.errands.Errand.{Errand}
use Rattle.reclock_client.specs.declared.errands.Errand.TheVariants as errands
use Rattle.reclock_client.specs.declared.looks.Look.{Look}
use Rattle.reclock_client.specs.declared.operators.Operator.{Operator}
use Rattle.reclock_client.specs.declared.steps.Part.TheVariants as parts
use Rattle.reclock_client.specs.declared.steps.Step.{Step}
use Rattle.reclock_client.specs.declared.steps.Step.TheVariants as steps
use Rattle.reclock_client.specs.Commands.{after_data_writer, after_join_data, after_join_remap, after_leave_data, after_leave_remap}
use Rattle.reclock_client.specs.Commands.{after_append_remap, after_poll, after_reader, after_remap_writer, changes_member, published_from}
use Rattle.reclock_client.specs.Parts.{part_of}
use Rattle.reclock_client.specs.Turns.{Clients, HasAll, AtStep, Serves, Turn, TurnBy, clients, heard}
use Rattle.reclock_client.proofs.Members.{asked_by, listen_by, member_by, reader_by, reader_now, writer_member}
use Rattle.reclock_client.proofs.ReadTurning.{join_reader_turn, leave_reader_turn, listen_turn, snapshot_turn, syncs_or_mints}
use Rattle.reclock_client.proofs.Turning.{append_data_turn, append_remap_turn, broken_turn, join_data_turn, join_remap_turn}
use Rattle.reclock_client.proofs.Turning.{leave_data_turn}
use Rattle.reclock_client.proofs.Turning.{leave_remap_turn, publish_turn, serves_at, serves_on, some_same, stays, waits_on}

-- ---- an answer, at any step

module _ (k : Clients) (c : Course) (errand : Errand) (e : c.errand ≡ Some errand) where
  remap_answer : (m : Option ℕ) (step : Step) (answer : WriteAnswer) → Serves k (heard c) errand step →
      m ≡ writers.member_after k.remap_member answer → Turn (record k { remap_member = m }) (after_remap_writer c step answer).0
  remap_answer m steps.JoinRemap answer s is =
      subst (λ (x : Option Errand). Turn (record k { remap_member = m }) (after_join_remap c x answer).0) (sym e)
      (join_remap_turn k c m errand answer e s is)
  remap_answer m (steps.AppendRemap from) answer s is =
      subst (λ (x : Option Errand). Turn (record k { remap_member = m }) (after_append_remap c x answer).0) (sym e)
      (append_remap_turn k c m from errand answer e s is)
  remap_answer m steps.LeaveRemap answer s is =
      subst (λ (x : Option Errand). Turn (record k { remap_member = m }) (after_leave_remap c x answer).0) (sym e)
      (leave_remap_turn k c m errand answer e s)
  remap_answer m other answer s is = tt

  data_answer : (m : Option ℕ) (step : Step) (answer : WriteAnswer) → Serves k (heard c) errand step →
      m ≡ writers.member_after k.data_member answer → Turn (record k { data_member = m }) (after_data_writer c step answer).0
  data_answer m steps.JoinData answer s is =
      subst (λ (x : Option Errand). Turn (record k { data_member = m }) (after_join_data c x answer).0) (sym e)
      (join_data_turn k c m errand answer e s is)
  data_answer m (steps.AppendData from) answer s is = append_data_turn k c m from errand answer e s is
  data_answer m steps.LeaveData answer s is =
      subst (λ (x : Option Errand). Turn (record k { data_member = m }) (after_leave_data c x answer).0) (sym e)
      (leave_data_turn k c m errand answer e s)
  data_answer m other answer s is = tt

  look_answer : (errand_is : Errand) → errand ≡ errand_is → (upper : Option ℕ) → Serves k (heard c) errand_is steps.Look →
      Turn k (published_from c upper).0
  look_answer (errands.Publish rows) is upper s = publish_turn k c rows upper (e ∙ ap (λ (x : Errand). Some x) is) s.takes s.listens s.few
  look_answer other is upper s = absurd s.takes

  read_answer : (m : Option ℕ) (l : Option (Option ℕ)) (step : Step) (answer : ReadAnswer) → Serves k (heard c) errand step →
      IsSome k.asked → m ≡ readers.member_after k.reader_member answer → l ≡ readers.listen_after k.asked k.listen answer →
      Turn (record k { reader_member = m; asked = None; listen = l }) (after_reader c step answer).0
  read_answer m l steps.JoinReader answer s some is at = join_reader_turn k c m l errand answer e s is at
  read_answer m l steps.Snapshot answer s some is at = let r = syncs_or_mints k (heard c) errand steps.Snapshot tt s.takes in
      snapshot_turn k c m l errand r.0 e answer r.1.0 r.1.1 is
  read_answer m l steps.Listen answer s some is at = let r = syncs_or_mints k (heard c) errand steps.Listen tt s.takes in
      listen_turn k c m l errand r.0 e answer r.1.0 (asked_so k.asked some r.1.3) is at
    where
      asked_so : (a : Option Asked) → IsSome a → IfSome a (λ asked. k.listen ≡ Some c.synced) → k.listen ≡ Some c.synced
      asked_so None some_ h = absurd (let bad : false ≡ true = some_ in cc)
      asked_so (Some asked) some_ h = h
  read_answer m l steps.Next answer s some is at = let r = syncs_or_mints k (heard c) errand steps.Next tt s.takes in
      listen_turn k c m l errand r.0 e answer r.1.0 (s.listens r.1.1) is at
  read_answer m l steps.LeaveReader answer s some is at = leave_reader_turn k c m l errand answer e s at
  read_answer m l other answer s some is at = tt

  -- ---- a poll

  on_remap : (m : Option ℕ) → Serves k (heard c) errand c.step → m ≡ k.remap_member → Turn (record k { remap_member = m }) c
  on_remap m s is = serves_on (record k { remap_member = m }) c errand c.step e
      (subst (λ (x : Option ℕ). Serves (record k { remap_member = x }) (heard c) errand c.step) (sym is) s)

  off_remap : (m : Option ℕ) → Serves k (heard c) errand c.step → m ≡ k.remap_member →
      TurnBy (record k { remap_member = m }) (heard c) None c.step (cond (changes_member c.step) false c.joined)
  off_remap m s is = broken_turn (record k { remap_member = m }) (heard c) errand c.step c.joined
      (subst (λ (x : Option ℕ). Serves (record k { remap_member = x }) (heard c) errand c.step) (sym is) s)

  pub remap_poll : (m : Option ℕ) (p : Poll WriteAnswer) → Serves k (heard c) errand c.step → m ≡ member_by k.remap_member p →
      Turn (record k { remap_member = m }) (after_poll (after_remap_writer c c.step) c p).0
  remap_poll m polls.Busy s is = on_remap m s is
  remap_poll m polls.More s is = on_remap m s is
  remap_poll m polls.Fault s is = on_remap m s is
  remap_poll m polls.Spent s is = off_remap m s is
  remap_poll m (polls.Damaged damage) s is = off_remap m s is
  remap_poll m (polls.Done answer) s is = remap_answer m c.step answer s is

  on_data : (m : Option ℕ) → Serves k (heard c) errand c.step → m ≡ k.data_member → Turn (record k { data_member = m }) c
  on_data m s is = serves_on (record k { data_member = m }) c errand c.step e
      (subst (λ (x : Option ℕ). Serves (record k { data_member = x }) (heard c) errand c.step) (sym is) s)

  off_data : (m : Option ℕ) → Serves k (heard c) errand c.step → m ≡ k.data_member →
      TurnBy (record k { data_member = m }) (heard c) None c.step (cond (changes_member c.step) false c.joined)
  off_data m s is = broken_turn (record k { data_member = m }) (heard c) errand c.step c.joined
      (subst (λ (x : Option ℕ). Serves (record k { data_member = x }) (heard c) errand c.step) (sym is) s)

  pub data_poll : (m : Option ℕ) (p : Poll WriteAnswer) → Serves k (heard c) errand c.step → m ≡ member_by k.data_member p →
      Turn (record k { data_member = m }) (after_poll (after_data_writer c c.step) c p).0
  data_poll m polls.Busy s is = on_data m s is
  data_poll m polls.More s is = on_data m s is
  data_poll m polls.Fault s is = on_data m s is
  data_poll m polls.Spent s is = off_data m s is
  data_poll m (polls.Damaged damage) s is = off_data m s is
  data_poll m (polls.Done answer) s is = data_answer m c.step answer s is

  pub look_poll : (p : Poll (Option ℕ)) → c.step ≡ steps.Look → Serves k (heard c) errand c.step →
      Turn k (after_poll (published_from c) c p).0
  look_poll polls.Busy at s = serves_on k c errand c.step e s
  look_poll polls.More at s = serves_on k c errand c.step e s
  look_poll polls.Fault at s = serves_on k c errand c.step e s
  look_poll polls.Spent at s = broken_turn k (heard c) errand c.step c.joined s
  look_poll (polls.Damaged damage) at s = broken_turn k (heard c) errand c.step c.joined s
  look_poll (polls.Done upper) at s = look_answer errand refl upper (subst (λ (x : Step). Serves k (heard c) errand x) at s)

  module _ (m : Option ℕ) (a : Option Asked) (l : Option (Option ℕ)) where
    abbrev now_reads : Clients
    now_reads = record k { reader_member = m; asked = a; listen = l }

    on_read : Serves k (heard c) errand c.step → m ≡ k.reader_member → l ≡ k.listen → a ≡ k.asked → Turn now_reads c
    on_read s is at same = serves_on now_reads c errand c.step e
        (subst (λ (x : Option ℕ). Serves (record k { reader_member = x; asked = a; listen = l }) (heard c) errand c.step) (sym is)
        (subst (λ (x : Option (Option ℕ)). Serves (record k { asked = a; listen = x }) (heard c) errand c.step) (sym at)
        (subst (λ (x : Option Asked). Serves (record k { asked = x }) (heard c) errand c.step) (sym same) s)))

    off_read : Serves k (heard c) errand c.step → m ≡ k.reader_member → l ≡ k.listen →
        TurnBy now_reads (heard c) None c.step (cond (changes_member c.step) false c.joined)
    off_read s is at = by (changes_member c.step) refl (stays k (heard c) errand c.step s.takes)
      where
        by : (b : Bool) → changes_member c.step ≡ b → (changes_member c.step ≡ true) ⊎ HasAll k →
            TurnBy now_reads (heard c) None c.step (cond b false c.joined)
        by true f which = tt
        by false f (inl yes_) = absurd (let bad : false ≡ true = sym f ∙ yes_ in cc)
        by false f (inr all) = waits_on now_reads (heard c) c.step c.joined (record {
          all = (all.0, some_same is all.1, all.2);
          listens = λ on. at ∙ s.listens on;
        })

    pub read_poll : (p : Poll ReadAnswer) → Serves k (heard c) errand c.step → IsSome k.asked → m ≡ reader_by k.reader_member p →
        l ≡ listen_by k.asked k.listen p → asked_by k.asked p a → Turn now_reads (after_poll (after_reader c c.step) c p).0
    read_poll polls.Busy s some is at same = on_read s is at same
    read_poll polls.More s some is at same = on_read s is at same
    read_poll polls.Fault s some is at same = on_read s is at same
    read_poll polls.Spent s some is at same = off_read s is at
    read_poll (polls.Damaged damage) s some is at same = off_read s is at
    read_poll (polls.Done answer) s some is at same =
        subst (λ (x : Option Asked). Turn (record k { reader_member = m; asked = x; listen = l }) (after_reader c c.step answer).0)
        (sym same)
        (read_answer m l c.step answer s some is at)

-- ---- an operator

look_step : (step : Step) → part_of step ≡ parts.Looker → step ≡ steps.Look
look_step steps.Look at = refl
look_step steps.JoinRemap at = absurd (let bad : parts.RemapWriter ≡ parts.Looker = at in cc)
look_step (steps.AppendRemap from) at = absurd (let bad : parts.RemapWriter ≡ parts.Looker = at in cc)
look_step steps.LeaveRemap at = absurd (let bad : parts.RemapWriter ≡ parts.Looker = at in cc)
look_step steps.JoinData at = absurd (let bad : parts.DataWriter ≡ parts.Looker = at in cc)
look_step (steps.AppendData from) at = absurd (let bad : parts.DataWriter ≡ parts.Looker = at in cc)
look_step steps.LeaveData at = absurd (let bad : parts.DataWriter ≡ parts.Looker = at in cc)
look_step steps.JoinReader at = absurd (let bad : parts.Reader ≡ parts.Looker = at in cc)
look_step steps.Snapshot at = absurd (let bad : parts.Reader ≡ parts.Looker = at in cc)
look_step steps.Listen at = absurd (let bad : parts.Reader ≡ parts.Looker = at in cc)
look_step steps.Next at = absurd (let bad : parts.Reader ≡ parts.Looker = at in cc)
look_step steps.LeaveReader at = absurd (let bad : parts.Reader ≡ parts.Looker = at in cc)

module _ (client : ℕ) (front now : Option History) (o : Operator) (turn : AtStep o) (busy : IsSome o.course.errand) where
  served : {P : Type 0} → ((errand : Errand) → o.course.errand ≡ Some errand →
      Serves (clients o) (heard o.course) errand o.course.step → P) → P
  served f = serves_at o turn busy o.course.step refl f

  pub remap_turned : (w : Writer) (p : Poll WriteAnswer) (c : Course) (n : ℕ) → Polled writes.machine client front now o.remap_writer w p →
      c ≡ (after_poll (after_remap_writer o.course o.course.step) o.course p).0 →
      AtStep (record o { remap_writer = w; course = c; calls = n })
  remap_turned w p c n polled is = subst (λ (x : Course). AtStep (record o { remap_writer = w; course = x; calls = n })) (sym is)
      (served (λ errand e s. remap_poll (clients o) o.course errand e w.member p s
      (writer_member client front now o.remap_writer w p polled)))

  pub data_turned : (w : Writer) (p : Poll WriteAnswer) (c : Course) (n : ℕ) → Polled writes.machine client front now o.data_writer w p →
      c ≡ (after_poll (after_data_writer o.course o.course.step) o.course p).0 →
      AtStep (record o { data_writer = w; course = c; calls = n })
  data_turned w p c n polled is = subst (λ (x : Course). AtStep (record o { data_writer = w; course = x; calls = n })) (sym is)
      (served (λ errand e s. data_poll (clients o) o.course errand e w.member p s
      (writer_member client front now o.data_writer w p polled)))

  pub read_turned : (r : Reader) (p : Poll ReadAnswer) (c : Course) (n : ℕ) → IsSome o.reader.asked →
      Polled reads.machine client front now o.reader r p → c ≡ (after_poll (after_reader o.course o.course.step) o.course p).0 →
      AtStep (record o { reader = r; course = c; calls = n })
  read_turned r p c n some polled is = subst (λ (x : Course). AtStep (record o { reader = r; course = x; calls = n })) (sym is)
      (served (λ errand e s. let k = reader_now client front now o.reader r p polled in
      read_poll (clients o) o.course errand e r.member r.asked r.listen p s some k.member k.listen k.asked))

  pub look_turned : (l : Tryer Look) (p : Poll (Option ℕ)) (c : Course) (n : ℕ) → part_of o.course.step ≡ parts.Looker →
      c ≡ (after_poll (published_from o.course) o.course p).0 → AtStep (record o { looker = l; course = c; calls = n })
  look_turned l p c n at is = subst (λ (x : Course). AtStep (record o { looker = l; course = x; calls = n })) (sym is)
      (served (λ errand e s. look_poll (clients o) o.course errand e p (look_step o.course.step at) s))

  -- want of memory leaves the command as it was
  pub remap_still : (w : Writer) → Unpolled writes.machine client front now o.remap_writer w → AtStep (record o { remap_writer = w })
  remap_still w u = served (λ errand e s. on_remap (clients o) o.course errand e w.member s (ap (λ (k : writes.Kept). k.member) u.same))

  pub data_still : (w : Writer) → Unpolled writes.machine client front now o.data_writer w → AtStep (record o { data_writer = w })
  data_still w u = served (λ errand e s. on_data (clients o) o.course errand e w.member s (ap (λ (k : writes.Kept). k.member) u.same))

  pub read_still : (r : Reader) → Unpolled reads.machine client front now o.reader r → AtStep (record o { reader = r })
  read_still r u = served (λ errand e s. on_read (clients o) o.course errand e r.member r.asked r.listen s
      (ap (λ (k : reads.Kept). k.member) u.same) (ap (λ (k : reads.Kept). k.listen) u.same) (ap (λ (k : reads.Kept). k.asked) u.same))

  pub look_still : (l : Tryer Look) → AtStep (record o { looker = l })
  look_still l = turn
