-- What a poll of an inner machine leaves of its member, and of the reader's listen.
use Rattle.std.proofs.Common.{◌≡◌, ℕ, Option, Some, None, refl, sym, ap, ◌∙◌}
use Rattle.std.specs.Prelude.{⊤}
use Rattle.store_core.specs.Histories.{History}
use Rattle.history_core.specs.declared.asked.Asked.{Asked}
use Rattle.history_core.specs.declared.read_answers.ReadAnswer.{ReadAnswer}
use Rattle.history_core.specs.declared.write_answers.WriteAnswer.{WriteAnswer}
use Rattle.load_core.specs.declared.polls.Poll.{Poll}
use Rattle.load_core.specs.declared.polls.Poll.TheVariants as polls
use Rattle.load_core.specs.declared.tryings.Trying.{Trying}
use Rattle.machine_core.specs.Polling.{Calls, Polled}
use Rattle.read_client.specs.declared.questions.Question.{Question}
use Rattle.read_client.specs.declared.readers.Reader.{Reader}
use Rattle.read_client.specs.Machining as reads
use Rattle.read_client.specs.Reading as readers
use Rattle.read_client.proofs.Machining as read_laws
use Rattle.read_machine.specs.declared.readings.Reading.{Reading}
use Rattle.write_client.specs.declared.writers.Writer.{Writer}
use Rattle.write_client.specs.Machining as writes
use Rattle.write_client.specs.Writing as writers
use Rattle.write_client.proofs.Machining as write_laws
use Rattle.reclock_client.proofs.Endings.{polled_kept}

-- only an answer changes it
abbrev pub member_by : Option ℕ → Poll WriteAnswer → Option ℕ
member_by m (polls.Done answer) = writers.member_after m answer
member_by m other = m

abbrev pub reader_by : Option ℕ → Poll ReadAnswer → Option ℕ
reader_by m (polls.Done answer) = readers.member_after m answer
reader_by m other = m

abbrev pub listen_by : Option Asked → Option (Option ℕ) → Poll ReadAnswer → Option (Option ℕ)
listen_by asked l (polls.Done answer) = readers.listen_after asked l answer
listen_by asked l other = l

-- what is asked, where the command goes on; nothing, where it is answered
abbrev pub asked_by : Option Asked → Poll ReadAnswer → Option Asked → Type 0
asked_by a polls.Spent b = ⊤
asked_by a (polls.Damaged damage) b = ⊤
asked_by a (polls.Done answer) b = b ≡ None
asked_by a other b = b ≡ a

module _ (client : ℕ) (front now : Option History) (old new : Writer) where
  stopped_writer : (p : Poll WriteAnswer) → ((w : Writer) → (writers.after_poll w p).member ≡ w.member) →
      Calls writes.machine client front now old new p → new.member ≡ old.member
  stopped_writer p same c = by c.moves c.prepares
    where
      by : writers.Moves c.ready c.reply new p → writers.Prepares old c.ready → new.member ≡ old.member
      by (s, tried, asked, moves, is, comes, after) (t, prepares, ready) =
          ap (λ (w : Writer). w.member) after ∙ same (record c.ready { storing = s }) ∙ ap (λ (w : Writer). w.member) ready

  pub writer_member : (p : Poll WriteAnswer) → Polled writes.machine client front now old new p → new.member ≡ member_by old.member p
  writer_member polls.Busy p = ap (λ (k : writes.Kept). k.member)
      (polled_kept Writer WriteAnswer writes.machine write_laws.keeps client front now old new polls.Busy tt p)
  writer_member polls.More p = ap (λ (k : writes.Kept). k.member)
      (polled_kept Writer WriteAnswer writes.machine write_laws.keeps client front now old new polls.More tt p)
  writer_member polls.Fault p = ap (λ (k : writes.Kept). k.member)
      (polled_kept Writer WriteAnswer writes.machine write_laws.keeps client front now old new polls.Fault tt p)
  writer_member polls.Spent p = stopped_writer polls.Spent (λ w. refl) p
  writer_member (polls.Damaged damage) p = stopped_writer (polls.Damaged damage) (λ w. refl) p
  writer_member (polls.Done answer) p = (p.ended answer refl).member

-- what a poll leaves of a reader
pub record ReaderNow (old new : Reader) (p : Poll ReadAnswer) : Type 0 where
  pub member : new.member ≡ reader_by old.member p
  pub listen : new.listen ≡ listen_by old.asked old.listen p
  pub asked : asked_by old.asked p new.asked

-- what a poll without an answer leaves of a reader whose command has ended
record Stopped (old new : Reader) : Type 0 where
  pub member : new.member ≡ old.member
  pub listen : new.listen ≡ old.listen

module _ (client : ℕ) (front now : Option History) (old new : Reader) where
  stopped_reader : (p : Poll ReadAnswer) → ((r : Reader) → (readers.after_poll r p).member ≡ r.member) →
      ((r : Reader) → (readers.after_poll r p).listen ≡ r.listen) → ((r : Reader) → readers.taken_back r p ≡ readers.given_back r) →
      Calls reads.machine client front now old new p → Stopped old new
  stopped_reader p same stands back c = record {
    member = moved (λ (r : Reader). r.member) same (λ r t. refl) (λ r w. refl);
    listen = moved (λ (r : Reader). r.listen) stands (λ r t. refl) (λ r w. refl);
  }
    where
      moved : {X : Type 0} (f : Reader → X) → ((r : Reader) → f (readers.after_poll r p) ≡ f r) →
          ((r : Reader) (t : Trying) → f (record r { trying = t }) ≡ f r) →
          ((r : Reader) (w : Reading Question) → f (readers.given_back (readers.reading_on r w)) ≡ f r) → f new ≡ f old
      moved f kept tried given = step (readers.question c.ready) c.moves ∙ prepared (readers.question old) c.prepares
        where
          step : (q : Option Question) → readers.MovesBy q c.ready c.reply new p → f new ≡ f c.ready
          step None (t, tried_, asked, moves, is, comes, after) = ap f after ∙ kept (record c.ready { trying = t }) ∙ tried c.ready t
          step (Some q) (w, moves, at, after) = ap f after ∙ kept (readers.taken_back (readers.reading_on c.ready w) p)
              ∙ ap f (back (readers.reading_on c.ready w)) ∙ given c.ready w

          prepared : (q : Option Question) → readers.PreparesBy q old c.ready → f c.ready ≡ f old
          prepared None (t, prepares, is) = ap f is ∙ tried old t
          prepared (Some q) is = ap f is

  going_reader : (p : Poll ReadAnswer) → reads.kept new ≡ reads.kept old → reader_by old.member p ≡ old.member →
      listen_by old.asked old.listen p ≡ old.listen → (new.asked ≡ old.asked → asked_by old.asked p new.asked) → ReaderNow old new p
  going_reader p same member listen asked = record {
    member = ap (λ (k : reads.Kept). k.member) same ∙ sym member;
    listen = ap (λ (k : reads.Kept). k.listen) same ∙ sym listen;
    asked = asked (ap (λ (k : reads.Kept). k.asked) same);
  }

  pub reader_now : (p : Poll ReadAnswer) → Polled reads.machine client front now old new p → ReaderNow old new p
  reader_now polls.Busy p = going_reader polls.Busy
      (polled_kept Reader ReadAnswer reads.machine read_laws.keeps client front now old new polls.Busy tt p) refl refl (λ e. e)
  reader_now polls.More p = going_reader polls.More
      (polled_kept Reader ReadAnswer reads.machine read_laws.keeps client front now old new polls.More tt p) refl refl (λ e. e)
  reader_now polls.Fault p = going_reader polls.Fault
      (polled_kept Reader ReadAnswer reads.machine read_laws.keeps client front now old new polls.Fault tt p) refl refl (λ e. e)
  reader_now polls.Spent p = let s = stopped_reader polls.Spent (λ r. refl) (λ r. refl) (λ r. refl) p in
      record { member = s.member; listen = s.listen; asked = tt }
  reader_now (polls.Damaged damage) p = let s = stopped_reader (polls.Damaged damage) (λ r. refl) (λ r. refl) (λ r. refl) p in
      record { member = s.member; listen = s.listen; asked = tt }
  reader_now (polls.Done answer) p = let e = p.ended answer refl in
      record { member = e.member; listen = e.listen; asked = e.asked }
