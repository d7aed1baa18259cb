-- What a poll of an inner machine leaves of an operator.
use Rattle.std.proofs.Common.{◌≡◌, ℕ, Option, Result, Ok, Err, refl, sym, ap, subst, ◌∙◌}
use Rattle.std.specs.Prelude.{IfOk, IsSome, OnErr}
use Rattle.std.specs.declared.alloc.AllocError.{AllocError}
use Rattle.store_core.specs.Histories.{History}
use Rattle.history_core.specs.declared.read_answers.ReadAnswer.{ReadAnswer}
use Rattle.history_core.specs.declared.write_answers.WriteAnswer.{WriteAnswer}
use Rattle.load_core.specs.declared.polls.Poll.{Poll}
use Rattle.load_core.specs.declared.polls.Poll.TheVariants as polls
use Rattle.machine_core.specs.Polling as machines
use Rattle.machine_core.specs.Polling.{CostGoesOn, FollowsWhere, LegalWhere}
use Rattle.read_client.specs.declared.readers.Reader.{Reader}
use Rattle.read_client.specs.Machining as reads
use Rattle.read_client.specs.Reading as readers
use Rattle.read_client.proofs.Machining as read_laws
use Rattle.try_machine.specs.declared.tryers.Tryer.{Tryer}
use Rattle.try_machine.specs.Tryers as tryers
use Rattle.write_client.specs.declared.writers.Writer.{Writer}
use Rattle.write_client.specs.Machining as writes
use Rattle.write_client.specs.Writing as writers
use Rattle.write_client.proofs.Machining as write_laws
use Rattle.reclock_client.specs.declared.clock_answers.ClockAnswer.{ClockAnswer}
use Rattle.reclock_client.specs.declared.courses.Course.{Course}
use Rattle.reclock_client.specs.declared.intakes.Intake.TheVariants as intakes
use Rattle.reclock_client.specs.declared.looks.Look.{Look}
use Rattle.reclock_client.specs.declared.operators.Operator.{Operator}
use Rattle.reclock_client.specs.declared.steps.Part.{Part}
use Rattle.reclock_client.specs.declared.steps.Part.TheVariants as parts
use Rattle.reclock_client.specs.Asking.{InTurn}
use Rattle.reclock_client.specs.Commands.{IfDone, IsForth, Next, after_data_writer, after_poll, after_reader, after_remap_writer}
use Rattle.reclock_client.specs.Commands.{published_from}
use Rattle.reclock_client.specs.Looking as looks
use Rattle.reclock_client.specs.Looking.{looking}
use Rattle.reclock_client.specs.Operators.{Follows, IsOpen, IsSound, Settles, part_of}
use Rattle.reclock_client.specs.Polling.{Comes, Inner, Polled as PolledNow, PolledBy, Starts, UnpolledBy, bound, counted}
use Rattle.reclock_client.specs.Turns.{AtStep}
use Rattle.reclock_client.proofs.LookRule as look_laws
use Rattle.reclock_client.proofs.Passing.{passed_memory, passed_poll}
use Rattle.reclock_client.proofs.Endings.{look_over, polled_shard, reader_over, unpolled_shard, writer_over}
use Rattle.reclock_client.proofs.Standing.{data_begun, data_follows, data_polled, look_follows, looker_begun, looker_polled, read_follows}
use Rattle.reclock_client.proofs.Standing.{reader_goes_on, reader_polled, remap_begun, remap_follows, remap_polled}
use Rattle.reclock_client.proofs.Turned.{data_still, data_turned, look_turned, read_still, read_turned, remap_still, remap_turned}
use Rattle.reclock_client.proofs.OwnPolls.{data_own_left, data_own_polled, look_own_polled, read_own_left, read_own_polled}
use Rattle.reclock_client.proofs.OwnPolls.{remap_own_left, remap_own_polled}

-- what holds anyway holds where memory is refused
pub on_err : (A : Type 0) (r : Result A AllocError) (P : Type 0) → P → OnErr r P
on_err A (Ok a) P p = tt
on_err A (Err e) P p = p

-- Busy and Fault come of an inner poll alone
pub of_busy : (A : Type 0) (answered : A → Next) (c x : Course) (p : Poll A) (q : Poll ClockAnswer) → (x, q) ≡ after_poll answered c p →
    IfDone p (IsForth q) → q ≡ polls.Busy → p ≡ polls.Busy
of_busy A answered c x polls.Busy q e f is = refl
of_busy A answered c x polls.More q e f is = absurd (let bad : polls.More ≡ polls.Busy = sym (ap (λ (n : Next). n.1) e) ∙ is in cc)
of_busy A answered c x polls.Fault q e f is = absurd (let bad : polls.Fault ≡ polls.Busy = sym (ap (λ (n : Next). n.1) e) ∙ is in cc)
of_busy A answered c x polls.Spent q e f is = absurd (let bad : polls.Spent ≡ polls.Busy = sym (ap (λ (n : Next). n.1) e) ∙ is in cc)
of_busy A answered c x (polls.Damaged d) q e f is =
    absurd (let bad : polls.Damaged d ≡ polls.Busy = sym (ap (λ (n : Next). n.1) e) ∙ is in cc)
of_busy A answered c x (polls.Done a) q e f is = absurd (subst IsForth is f)

pub of_fault : (A : Type 0) (answered : A → Next) (c x : Course) (p : Poll A) (q : Poll ClockAnswer) → (x, q) ≡ after_poll answered c p →
    IfDone p (IsForth q) → q ≡ polls.Fault → p ≡ polls.Fault
of_fault A answered c x polls.Busy q e f is = absurd (let bad : polls.Busy ≡ polls.Fault = sym (ap (λ (n : Next). n.1) e) ∙ is in cc)
of_fault A answered c x polls.More q e f is = absurd (let bad : polls.More ≡ polls.Fault = sym (ap (λ (n : Next). n.1) e) ∙ is in cc)
of_fault A answered c x polls.Fault q e f is = refl
of_fault A answered c x polls.Spent q e f is = absurd (let bad : polls.Spent ≡ polls.Fault = sym (ap (λ (n : Next). n.1) e) ∙ is in cc)
of_fault A answered c x (polls.Damaged d) q e f is =
    absurd (let bad : polls.Damaged d ≡ polls.Fault = sym (ap (λ (n : Next). n.1) e) ∙ is in cc)
of_fault A answered c x (polls.Done a) q e f is = absurd (subst IsForth is f)

-- what an inner poll makes of the operator
comes : (mid : Operator) (c : Course) (n calls : ℕ) (q : Poll ClockAnswer) (next : Next) → (c, q) ≡ next → n ≡ calls →
    Comes next calls mid (record mid { course = c; calls = n }) q
comes mid c n calls q next e count = (λ i. record mid { course = (e i).0; calls = count i }, ap (λ (x : Next). x.1) e)

pub record Came (client : ℕ) (front now : Option History) (o new : Operator) (q : Poll ClockAnswer) : Type 0 where
  pub polled : PolledBy (part_of o.course.step) client front now o new q
  pub sound : IsSound new
  pub turn : InTurn new
  pub follows : Follows client now new

pub record Left (client : ℕ) (front now : Option History) (o new : Operator) : Type 0 where
  pub memory : UnpolledBy (part_of o.course.step) client front now o new
  pub sound : IsSound new
  pub turn : InTurn new
  pub follows : Follows client now new

module _ (client : ℕ) (front now : Option History) (o : Operator) (s : IsSound o) (busy : IsSome o.course.errand)
    (taken : o.course.intake ≡ intakes.Nothing) (f : Follows client front o) (t : InTurn o) where
  pub remap_came : (w : Writer) (p : Poll WriteAnswer) (c : Course) (n : ℕ) (q : Poll ClockAnswer) →
      part_of o.course.step ≡ parts.RemapWriter → IsOpen o (part_of o.course.step) →
      Inner writes.machine client front now o.remap_writer w p → FollowsWhere writes.machine client now w → writers.IsSound w →
      n ≡ counted p o.calls w.storing.trying.calls → (c, q) ≡ after_poll (after_remap_writer o.course o.course.step) o.course p →
      Settles o.course c → Came client front now o (record o { remap_writer = w; course = c; calls = n }) q
  remap_came w p c n q turn is_open i own sound count e settles =
      let shard = polled_shard Writer WriteAnswer writes.machine write_laws.keeps client front now o.remap_writer w p i.polled in
      let here : IsOpen o parts.RemapWriter = subst (IsOpen o) turn is_open in
      let it : PolledBy parts.RemapWriter client front now o (record o { remap_writer = w; course = c; calls = n }) q = (
        p,
        i,
        comes (record o { remap_writer = w }) c n (counted p o.calls w.storing.trying.calls) q
            (after_poll (after_remap_writer o.course o.course.step) o.course p) e count,
      ) in
      let now_sound : IsSound (record o { remap_writer = w; course = c; calls = n }) = remap_polled o s busy w c n turn sound
      (shard ∙ s.machines.writes_remap) (settles taken s.course)
      (writer_over client front now o.remap_writer w (after_remap_writer o.course o.course.step) o.course c p
      (ap (λ (x : Next). x.0) e) i.polled) in
      let at : AtStep (record o { remap_writer = w; course = c; calls = n }) =
      remap_turned client front now o t.0 busy w p c n i.polled (ap (λ (x : Next). x.0) e) in
      record {
        polled = subst (λ (x : Part). PolledBy x client front now o (record o { remap_writer = w; course = c; calls = n }) q) (sym turn) it;
        sound = now_sound;
        turn = (at, remap_own_polled client front now o s t.1 c n w p turn i.polled (ap (λ (x : Next). x.0) e) now_sound at);
        follows = remap_follows client front now o s f c n w turn here
            (passed_poll Writer WriteAnswer writes.machine client front now o.remap_writer w p i.polled) own;
      }

  pub remap_left : (w : Writer) → part_of o.course.step ≡ parts.RemapWriter → IsOpen o (part_of o.course.step) →
      machines.Unpolled writes.machine client front now o.remap_writer w → FollowsWhere writes.machine client now w → writers.IsSound w →
      Left client front now o (record o { remap_writer = w })
  remap_left w turn is_open u own sound =
      let shard = unpolled_shard Writer WriteAnswer writes.machine write_laws.keeps client front now o.remap_writer w u in
      let here : IsOpen o parts.RemapWriter = subst (IsOpen o) turn is_open in
      record {
        memory = subst (λ (x : Part). UnpolledBy x client front now o (record o { remap_writer = w })) (sym turn) (refl, u);
        sound = remap_begun o s busy w o.course.step o.calls turn turn sound (shard ∙ s.machines.writes_remap);
        turn = (remap_still client front now o t.0 busy w u, remap_own_left client front now o s t.1 o.course o.calls w u);
        follows = remap_follows client front now o s f o.course o.calls w turn here
            (passed_memory Writer WriteAnswer writes.machine client front now o.remap_writer w u) own;
      }

  pub data_came : (w : Writer) (p : Poll WriteAnswer) (c : Course) (n : ℕ) (q : Poll ClockAnswer) →
      part_of o.course.step ≡ parts.DataWriter → IsOpen o (part_of o.course.step) →
      Inner writes.machine client front now o.data_writer w p → FollowsWhere writes.machine client now w → writers.IsSound w →
      n ≡ counted p o.calls w.storing.trying.calls → (c, q) ≡ after_poll (after_data_writer o.course o.course.step) o.course p →
      Settles o.course c → Came client front now o (record o { data_writer = w; course = c; calls = n }) q
  data_came w p c n q turn is_open i own sound count e settles =
      let shard = polled_shard Writer WriteAnswer writes.machine write_laws.keeps client front now o.data_writer w p i.polled in
      let here : IsOpen o parts.DataWriter = subst (IsOpen o) turn is_open in
      let it : PolledBy parts.DataWriter client front now o (record o { data_writer = w; course = c; calls = n }) q = (
        p,
        i,
        comes (record o { data_writer = w }) c n (counted p o.calls w.storing.trying.calls) q
            (after_poll (after_data_writer o.course o.course.step) o.course p) e count,
      ) in
      let now_sound : IsSound (record o { data_writer = w; course = c; calls = n }) = data_polled o s busy w c n turn sound
      (shard ∙ s.machines.writes_data) (settles taken s.course)
      (writer_over client front now o.data_writer w (after_data_writer o.course o.course.step) o.course c p
      (ap (λ (x : Next). x.0) e) i.polled) in
      let at : AtStep (record o { data_writer = w; course = c; calls = n }) =
      data_turned client front now o t.0 busy w p c n i.polled (ap (λ (x : Next). x.0) e) in
      record {
        polled = subst (λ (x : Part). PolledBy x client front now o (record o { data_writer = w; course = c; calls = n }) q) (sym turn) it;
        sound = now_sound;
        turn = (at, data_own_polled client front now o s t.1 c n w p turn i.polled (ap (λ (x : Next). x.0) e) now_sound at);
        follows = data_follows client front now o s f c n w turn here
            (passed_poll Writer WriteAnswer writes.machine client front now o.data_writer w p i.polled) own;
      }

  pub data_left : (w : Writer) → part_of o.course.step ≡ parts.DataWriter → IsOpen o (part_of o.course.step) →
      machines.Unpolled writes.machine client front now o.data_writer w → FollowsWhere writes.machine client now w → writers.IsSound w →
      Left client front now o (record o { data_writer = w })
  data_left w turn is_open u own sound =
      let shard = unpolled_shard Writer WriteAnswer writes.machine write_laws.keeps client front now o.data_writer w u in
      let here : IsOpen o parts.DataWriter = subst (IsOpen o) turn is_open in
      record {
        memory = subst (λ (x : Part). UnpolledBy x client front now o (record o { data_writer = w })) (sym turn) (refl, u);
        sound = data_begun o s busy w o.course.step o.calls turn turn sound (shard ∙ s.machines.writes_data);
        turn = (data_still client front now o t.0 busy w u, data_own_left client front now o s t.1 o.course o.calls w u);
        follows = data_follows client front now o s f o.course o.calls w turn here
            (passed_memory Writer WriteAnswer writes.machine client front now o.data_writer w u) own;
      }

  pub read_came : (r : Reader) (p : Poll ReadAnswer) (c : Course) (n : ℕ) (q : Poll ClockAnswer) →
      part_of o.course.step ≡ parts.Reader → IsOpen o (part_of o.course.step) →
      Inner reads.machine client front now o.reader r p → FollowsWhere reads.machine client now r → readers.IsSound r →
      n ≡ counted p o.calls r.trying.calls → (c, q) ≡ after_poll (after_reader o.course o.course.step) o.course p →
      Settles o.course c → Came client front now o (record o { reader = r; course = c; calls = n }) q
  read_came r p c n q turn is_open i own sound count e settles =
      let shard = polled_shard Reader ReadAnswer reads.machine read_laws.keeps client front now o.reader r p i.polled in
      let here : IsOpen o parts.Reader = subst (IsOpen o) turn is_open in
      let it : PolledBy parts.Reader client front now o (record o { reader = r; course = c; calls = n }) q = (
        p,
        i,
        comes (record o { reader = r }) c n (counted p o.calls r.trying.calls) q
            (after_poll (after_reader o.course o.course.step) o.course p) e count,
      ) in
      let now_sound : IsSound (record o { reader = r; course = c; calls = n }) = reader_polled o s busy r c n turn sound
      (shard ∙ s.machines.reads_remap) (settles taken s.course)
      (reader_over client front now o.reader r (after_reader o.course o.course.step) o.course c p (ap (λ
      (x : Next). x.0) e) i.polled) in
      let at : AtStep (record o { reader = r; course = c; calls = n }) =
      read_turned client front now o t.0 busy r p c n here i.polled (ap (λ (x : Next). x.0) e) in
      record {
        polled = subst (λ (x : Part). PolledBy x client front now o (record o { reader = r; course = c; calls = n }) q) (sym turn) it;
        sound = now_sound;
        turn = (at, read_own_polled client front now o s t.1 c n r p turn i.polled (ap (λ (x : Next). x.0) e) now_sound at);
        follows = read_follows client front now o s f c n r turn here
            (passed_poll Reader ReadAnswer reads.machine client front now o.reader r p i.polled) own;
      }

  pub read_left : (r : Reader) → part_of o.course.step ≡ parts.Reader → IsOpen o (part_of o.course.step) →
      machines.Unpolled reads.machine client front now o.reader r → FollowsWhere reads.machine client now r → readers.IsSound r →
      Left client front now o (record o { reader = r })
  read_left r turn is_open u own sound =
      let shard = unpolled_shard Reader ReadAnswer reads.machine read_laws.keeps client front now o.reader r u in
      let here : IsOpen o parts.Reader = subst (IsOpen o) turn is_open in
      record {
        memory = subst (λ (x : Part). UnpolledBy x client front now o (record o { reader = r })) (sym turn) (refl, u);
        sound = reader_goes_on o s busy r o.calls turn sound (shard ∙ s.machines.reads_remap) (ap (λ (k : reads.Kept). k.asked) u.same);
        turn = (read_still client front now o t.0 busy r u, read_own_left client front now o s t.1 o.course o.calls r u);
        follows = read_follows client front now o s f o.course o.calls r turn here
            (passed_memory Reader ReadAnswer reads.machine client front now o.reader r u) own;
      }

  pub look_came : (l : Tryer Look) (p : Poll (Option ℕ)) (c : Course) (n : ℕ) (q : Poll ClockAnswer) →
      part_of o.course.step ≡ parts.Looker → IsOpen o (part_of o.course.step) →
      Inner looks.machine client front now o.looker l p → FollowsWhere looks.machine client now l → tryers.IsSound looking l →
      n ≡ counted p o.calls l.trying.calls → (c, q) ≡ after_poll (published_from o.course) o.course p →
      Settles o.course c → Came client front now o (record o { looker = l; course = c; calls = n }) q
  look_came l p c n q turn is_open i own sound count e settles =
      let shard = polled_shard (Tryer Look) (Option ℕ) looks.machine look_laws.keeps client front now o.looker l p i.polled in
      let here : IsOpen o parts.Looker = subst (IsOpen o) turn is_open in
      let it : PolledBy parts.Looker client front now o (record o { looker = l; course = c; calls = n }) q = (
        p,
        i,
        comes (record o { looker = l }) c n (counted p o.calls l.trying.calls) q
            (after_poll (published_from o.course) o.course p) e count,
      ) in
      let now_sound : IsSound (record o { looker = l; course = c; calls = n }) = looker_polled o s busy l c n turn sound
      (shard ∙ s.machines.looks_data) (settles taken s.course)
      (look_over client front now o.looker l (published_from o.course) o.course c p (ap (λ (x : Next). x.0) e) i.polled) in
      let at : AtStep (record o { looker = l; course = c; calls = n }) =
      look_turned client front now o t.0 busy l p c n turn (ap (λ (x : Next). x.0) e) in
      record {
        polled = subst (λ (x : Part). PolledBy x client front now o (record o { looker = l; course = c; calls = n }) q) (sym turn) it;
        sound = now_sound;
        turn = (at, look_own_polled client front now o s t.1 c n l p turn i.polled (ap (λ (x : Next). x.0) e) now_sound at);
        follows = look_follows client front now o s f c n l turn here
            (passed_poll (Tryer Look) (Option ℕ) looks.machine client front now o.looker l p i.polled) own;
      }

  pub look_left : (l : Tryer Look) → part_of o.course.step ≡ parts.Looker → IsOpen o (part_of o.course.step) →
      machines.Unpolled looks.machine client front now o.looker l → FollowsWhere looks.machine client now l → tryers.IsSound looking l →
      Left client front now o (record o { looker = l })
  look_left l turn is_open u own sound =
      let shard = unpolled_shard (Tryer Look) (Option ℕ) looks.machine look_laws.keeps client front now o.looker l u in
      let here : IsOpen o parts.Looker = subst (IsOpen o) turn is_open in
      record {
        memory = subst (λ (x : Part). UnpolledBy x client front now o (record o { looker = l })) (sym turn) (refl, u);
        sound = looker_begun o s busy l o.calls turn sound (shard ∙ s.machines.looks_data);
        turn = t;
        follows = look_follows client front now o s f o.course o.calls l turn here
            (passed_memory (Tryer Look) (Option ℕ) looks.machine client front now o.looker l u) own;
      }

-- ---- what was ready is what was polled

pub polled_ready : (client : ℕ) (front now : Option History) (o ready new : Operator) (c : Course) → c ≡ bound o.course →
    Starts (part_of c.step) (record o { course = c }) ready → IsSound ready → InTurn ready → IsOpen ready (part_of ready.course.step) →
    (r : Result (Poll ClockAnswer) AllocError) →
    IfOk r (PolledBy (part_of ready.course.step) client front now ready new) → IfOk r (PolledNow client front now o new)
polled_ready client front now o ready new c is starts sound turn is_open (Ok poll) polled = record {
  ready = ready;
  readies = subst (λ (x : Course). Starts (part_of x.step) (record o { course = x }) ready) is starts;
  sound = sound;
  turn = turn;
  is_open = is_open;
  polled = polled;
}
polled_ready client front now o ready new c is starts sound turn is_open (Err e) polled = tt
