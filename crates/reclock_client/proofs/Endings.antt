-- After a poll of an inner machine its command goes on, and the course is as it was; or the machine has no command.
use Rattle.std.proofs.Common.{◌≡◌, ℕ, Option, Some, None, refl, ap, ◌∙◌, inl, inr}
use Rattle.std.specs.Prelude.{⊤, ◌⊎◌, IsSomeAnd}
use Rattle.store_core.specs.declared.replies.Reply.{Reply}
use Rattle.store_core.specs.Histories.{History}
use Rattle.history_core.specs.declared.read_answers.ReadAnswer.{ReadAnswer}
use Rattle.history_core.specs.declared.write_answers.WriteAnswer.{WriteAnswer}
use Rattle.load_core.specs.declared.polls.Poll.{Poll}
use Rattle.load_core.specs.declared.polls.Poll.TheVariants as polls
use Rattle.machine_core.specs.Machines.{GoesOn, Keeps, Words, shard_of}
use Rattle.machine_core.specs.Polling.{Calls, Polled, Unpolled}
use Rattle.read_client.specs.declared.questions.Question.{Question}
use Rattle.read_client.specs.declared.readers.Reader.{Reader}
use Rattle.read_client.specs.Machining as reads
use Rattle.read_client.specs.Reading as readers
use Rattle.read_client.proofs.Machining as read_laws
use Rattle.try_machine.specs.declared.tryers.Tryer.{Tryer}
use Rattle.try_machine.specs.Tryers as tryers
use Rattle.write_client.specs.declared.writers.Writer.{Writer}
use Rattle.write_client.specs.Machining as writes
use Rattle.write_client.specs.Writing as writers
use Rattle.write_client.proofs.Machining as write_laws
use Rattle.reclock_client.specs.declared.courses.Course.{Course}
use Rattle.reclock_client.specs.declared.looks.Look.{Look}
use Rattle.reclock_client.specs.Commands.{Next, after_poll}
use Rattle.reclock_client.specs.Looking as looks
use Rattle.reclock_client.specs.Looking.{looking}

-- ---- no poll changes the shard

module _ (A B : Type 0) (W : Words A B) (K : Keeps W) (client : ℕ) (front now : Option History) (old new : A) where
  called_shard : (poll : Poll B) → Calls W client front now old new poll → shard_of W new ≡ shard_of W old
  called_shard poll c = K.moved_shard c.ready new c.reply poll c.moves ∙ ap (λ (k : W.Kept). W.shard k) (K.prepared_kept old c.ready c.prepares)

  pub polled_shard : (poll : Poll B) → Polled W client front now old new poll → shard_of W new ≡ shard_of W old
  polled_shard polls.Busy p = ap (λ (k : W.Kept). W.shard k) (K.prepared_kept old new p.1)
  polled_shard polls.More p = called_shard polls.More p
  polled_shard polls.Fault p = called_shard polls.Fault p
  polled_shard polls.Spent p = called_shard polls.Spent p
  polled_shard (polls.Damaged damage) p = called_shard (polls.Damaged damage) p
  polled_shard (polls.Done answer) p = called_shard (polls.Done answer) p

  pub unpolled_shard : Unpolled W client front now old new → shard_of W new ≡ shard_of W old
  unpolled_shard u = ap (λ (k : W.Kept). W.shard k) u.same

  -- what is kept while the command goes on
  pub polled_kept : (poll : Poll B) → GoesOn poll → Polled W client front now old new poll → W.kept new ≡ W.kept old
  polled_kept polls.Busy on p = K.prepared_kept old new p.1
  polled_kept polls.More on p = (p.stays tt).0
  polled_kept polls.Fault on p = (p.stays tt).0
  polled_kept polls.Spent on p = absurd on
  polled_kept (polls.Damaged damage) on p = absurd on
  polled_kept (polls.Done answer) on p = absurd on

-- ---- the course while the command goes on

pub course_stays : (A : Type 0) (answered : A → Next) (c : Course) (poll : Poll A) → GoesOn poll → (after_poll answered c poll).0 ≡ c
course_stays A answered c polls.Busy on = refl
course_stays A answered c polls.More on = refl
course_stays A answered c polls.Fault on = refl
course_stays A answered c polls.Spent on = absurd on
course_stays A answered c (polls.Damaged damage) on = absurd on
course_stays A answered c (polls.Done answer) on = absurd on

-- a poll that ends the command
abbrev pub Ends : {A : Type 0} → Poll A → Type 0
Ends polls.Busy = ⊥
Ends polls.More = ⊥
Ends polls.Fault = ⊥
Ends _ = ⊤

-- ---- a writer

writer_moved : (m new : Writer) (r : Reply) (poll : Poll WriteAnswer) → Ends poll → writers.Moves m r new poll → new.asked ≡ None
writer_moved m new r poll over (s, tried, asked, moves, is, comes, after) = ap (λ (w : Writer). w.asked) after ∙ by (record m { storing = s }) poll over
  where
    by : (w : Writer) (p : Poll WriteAnswer) → Ends p → (writers.after_poll w p).asked ≡ None
    by w polls.Busy h = absurd h
    by w polls.More h = absurd h
    by w polls.Fault h = absurd h
    by w polls.Spent h = refl
    by w (polls.Damaged damage) h = refl
    by w (polls.Done answer) h = refl

pub writer_over : (client : ℕ) (front now : Option History) (old new : Writer) (answered : WriteAnswer → Next) (c next : Course)
    (poll : Poll WriteAnswer) → next ≡ (after_poll answered c poll).0 → Polled writes.machine client front now old new poll →
    ((next ≡ c) × (new.asked ≡ old.asked)) ⊎ (new.asked ≡ None)
writer_over client front now old new answered c next polls.Busy e p = inl (
  e,
  ap (λ (k : writes.Kept). k.asked)
      (polled_kept Writer WriteAnswer writes.machine write_laws.keeps client front now old new polls.Busy tt p),
)
writer_over client front now old new answered c next polls.More e p = inl (
  e,
  ap (λ (k : writes.Kept). k.asked)
      (polled_kept Writer WriteAnswer writes.machine write_laws.keeps client front now old new polls.More tt p),
)
writer_over client front now old new answered c next polls.Fault e p = inl (
  e,
  ap (λ (k : writes.Kept). k.asked)
      (polled_kept Writer WriteAnswer writes.machine write_laws.keeps client front now old new polls.Fault tt p),
)
writer_over client front now old new answered c next polls.Spent e p = inr (writer_moved p.ready new p.reply polls.Spent tt p.moves)
writer_over client front now old new answered c next (polls.Damaged d) e p =
    inr (writer_moved p.ready new p.reply (polls.Damaged d) tt p.moves)
writer_over client front now old new answered c next (polls.Done a) e p = inr (writer_moved p.ready new p.reply (polls.Done a) tt p.moves)

-- ---- a reader

reader_moved : (m new : Reader) (r : Reply) (poll : Poll ReadAnswer) → Ends poll → readers.Moves m r new poll → new.asked ≡ None
reader_moved m new r poll over moves = go (readers.question m) moves
  where
    by : (v : Reader) (p : Poll ReadAnswer) → Ends p → (readers.after_poll v p).asked ≡ None
    by v polls.Busy h = absurd h
    by v polls.More h = absurd h
    by v polls.Fault h = absurd h
    by v polls.Spent h = refl
    by v (polls.Damaged damage) h = refl
    by v (polls.Done answer) h = refl

    go : (o : Option Question) → readers.MovesBy o m r new poll → new.asked ≡ None
    go None (t, tried, asked, moves, is, comes, after) = ap (λ (v : Reader). v.asked) after ∙ by (record m { trying = t }) poll over
    go (Some q) (w, moves, at, after) =
        ap (λ (v : Reader). v.asked) after ∙ by (readers.taken_back (readers.reading_on m w) poll) poll over

pub reader_over : (client : ℕ) (front now : Option History) (old new : Reader) (answered : ReadAnswer → Next) (c next : Course)
    (poll : Poll ReadAnswer) → next ≡ (after_poll answered c poll).0 → Polled reads.machine client front now old new poll →
    ((next ≡ c) × (new.asked ≡ old.asked)) ⊎ (new.asked ≡ None)
reader_over client front now old new answered c next polls.Busy e p = inl (
  e,
  ap (λ (k : reads.Kept). k.asked)
      (polled_kept Reader ReadAnswer reads.machine read_laws.keeps client front now old new polls.Busy tt p),
)
reader_over client front now old new answered c next polls.More e p = inl (
  e,
  ap (λ (k : reads.Kept). k.asked)
      (polled_kept Reader ReadAnswer reads.machine read_laws.keeps client front now old new polls.More tt p),
)
reader_over client front now old new answered c next polls.Fault e p = inl (
  e,
  ap (λ (k : reads.Kept). k.asked)
      (polled_kept Reader ReadAnswer reads.machine read_laws.keeps client front now old new polls.Fault tt p),
)
reader_over client front now old new answered c next polls.Spent e p = inr (reader_moved p.ready new p.reply polls.Spent tt p.moves)
reader_over client front now old new answered c next (polls.Damaged d) e p =
    inr (reader_moved p.ready new p.reply (polls.Damaged d) tt p.moves)
reader_over client front now old new answered c next (polls.Done a) e p = inr (reader_moved p.ready new p.reply (polls.Done a) tt p.moves)

-- ---- a look

look_moved : (m new : Tryer Look) (r : Reply) (poll : Poll (Option ℕ)) → Ends poll → tryers.Moves looking m r new poll → new.asked ≡ None
look_moved m new r poll over moves = go m.asked moves
  where
    by : (a : Option Look) (p : Poll (Option ℕ)) → Ends p → tryers.asked_after a p ≡ None
    by a polls.Busy h = absurd h
    by a polls.More h = absurd h
    by a polls.Fault h = absurd h
    by a polls.Spent h = refl
    by a (polls.Damaged damage) h = refl
    by a (polls.Done answer) h = refl

    on : (q : Look) (e : Option (Option ℕ)) → tryers.MovesBy looking e q m r new poll → new.asked ≡ None
    on q (Some answer) (is, after) = ap (λ (t : Tryer Look). t.asked) after
    on q None (t, tried, moves, comes, after) = ap (λ (x : Tryer Look). x.asked) after ∙ by (Some q) poll over

    go : (a : Option Look) → IsSomeAnd a (λ q. tryers.MovesBy looking (tryers.empty_answer looking m r) q m r new poll) → new.asked ≡ None
    go None h = absurd h
    go (Some q) h = on q (tryers.empty_answer looking m r) h

pub look_over : (client : ℕ) (front now : Option History) (old new : Tryer Look) (answered : Option ℕ → Next) (c next : Course)
    (poll : Poll (Option ℕ)) → next ≡ (after_poll answered c poll).0 → Polled looks.machine client front now old new poll →
    (next ≡ c) ⊎ (new.asked ≡ None)
look_over client front now old new answered c next polls.Busy e p = inl e
look_over client front now old new answered c next polls.More e p = inl e
look_over client front now old new answered c next polls.Fault e p = inl e
look_over client front now old new answered c next polls.Spent e p = inr (look_moved p.ready new p.reply polls.Spent tt p.moves)
look_over client front now old new answered c next (polls.Damaged d) e p = inr (look_moved p.ready new p.reply (polls.Damaged d) tt p.moves)
look_over client front now old new answered c next (polls.Done a) e p = inr (look_moved p.ready new p.reply (polls.Done a) tt p.moves)
