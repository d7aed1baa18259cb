-- An inner machine that isn't at work follows on past what another one's poll has seen of the front.
use Rattle.std.proofs.Common.{◌≡◌, ℕ, true, false, Option, Some, None, sym, subst, inl, inr}
use Rattle.std.specs.Prelude.{◌⊎◌, IsSome}
use Rattle.store_core.specs.declared.calls.Call.{Call}
use Rattle.store_core.specs.declared.replies.Reply.{Reply}
use Rattle.store_core.specs.Histories.{History}
use Rattle.store_core.specs.Ports.{GainsWhereTold, GrowsByOthers}
use Rattle.history_core.specs.declared.read_answers.ReadAnswer.{ReadAnswer}
use Rattle.history_core.specs.declared.write_answers.WriteAnswer.{WriteAnswer}
use Rattle.load_core.specs.declared.polls.Poll.{Poll}
use Rattle.load_core.specs.declared.polls.Poll.TheVariants as polls
use Rattle.machine_core.specs.Machines.{IsReading, Keeps, Words}
use Rattle.machine_core.specs.Polling.{Calls, FollowsWhere, Polled, Unpolled, Wanted}
use Rattle.machine_core.proofs.Fronts.{everywhere}
use Rattle.machine_core.proofs.Polls.{others_where, spared_where}
use Rattle.try_machine.specs.declared.tryers.Tryer.{Tryer}
use Rattle.write_client.specs.declared.writers.Writer.{Writer}
use Rattle.write_client.specs.Following as write_follows
use Rattle.write_client.specs.Machining as writes
use Rattle.write_client.specs.Writing as writers
use Rattle.write_client.proofs.Machining as write_laws
use Rattle.read_client.specs.declared.readers.Reader.{Reader}
use Rattle.read_client.specs.Machining as reads
use Rattle.read_client.specs.Reading as readers
use Rattle.read_client.proofs.Begun.{open_follows}
use Rattle.read_client.proofs.Machining as read_laws
use Rattle.reclock_client.specs.declared.looks.Look.{Look}
use Rattle.reclock_client.specs.Looking as looks
use Rattle.reclock_client.specs.Operators.{Rests}
use Rattle.reclock_client.proofs.LookRule as look_laws

-- what a poll has seen of a front, whose call had M of it
pub data Passed (client : ℕ) (front now : Option History) (M : Call → Type 0) : Type 0 where
  still : now ≡ front → Passed client front now M
  others : GrowsByOthers client front now → Passed client front now M
  called : (call : Call) (r : Reply) → GainsWhereTold client front now call r → M call → Passed client front now M

-- what the call of a machine had: it was the next one of the machine once prepared, and had its effect or changed nothing
pub record Made {A B : Type 0} (W : Words A B) (old : A) (call : Call) : Type 0 where
  pub ready : A
  pub prepares : W.Prepares old ready
  pub call_is : W.call_of ready ≡ Some call
  pub did : IsReading call ⊎ ((r : Reply) × (poll : Poll B) × W.Effect (W.kept old) call r poll)

module _ (A B : Type 0) (W : Words A B) (client : ℕ) (front now : Option History) where
  made : (old new : A) (poll : Poll B) → Calls W client front now old new poll → Passed client front now (Made W old)
  made old new poll c = called c.call c.reply c.gains (record {
    ready = c.ready;
    prepares = c.prepares;
    call_is = c.call_is;
    did = inr (c.reply, poll, c.effect);
  })

  pub passed_poll : (old new : A) (poll : Poll B) → Polled W client front now old new poll → Passed client front now (Made W old)
  passed_poll old new polls.Busy p = still p.0
  passed_poll old new polls.More p = made old new polls.More p
  passed_poll old new polls.Fault p = made old new polls.Fault p
  passed_poll old new polls.Spent p = made old new polls.Spent p
  passed_poll old new (polls.Damaged damage) p = made old new (polls.Damaged damage) p
  passed_poll old new (polls.Done answer) p = made old new (polls.Done answer) p

  wanted : (old new : A) → Wanted W client front now old new → Passed client front now (Made W old)
  wanted old new w = called w.call w.reply w.gains (record {
    ready = w.ready;
    prepares = w.prepares;
    call_is = w.call_is;
    did = inl w.reads;
  })

  pub passed_memory : (old new : A) → Unpolled W client front now old new → Passed client front now (Made W old)
  passed_memory old new u = by u.how
    where
      by : (GrowsByOthers client front now × ((new ≡ old) ⊎ W.Prepares old new)) ⊎ Wanted W client front now old new →
          Passed client front now (Made W old)
      by (inl none) = others none.0
      by (inr w) = wanted old new w

  -- one with no open command, past calls that leave it alone
  pub idle_follows : Keeps W → (P : Call → Type 0) (m : A) → ¬ W.IsOpen m → ((call : Call) → P call → W.Spares m call) →
      Passed client front now P → FollowsWhere W client front m → FollowsWhere W client now m
  idle_follows K P m closed spares (still e) f = subst (λ (h : Option History). FollowsWhere W client h m) (sym e) f
  idle_follows K P m closed spares (others g) f = others_where A B W K client front now m f g
  idle_follows K P m closed spares (called call r gains p) f =
      spared_where A B W K client front now call r m closed (spares call p) f gains

-- a writer that hasn't been polled follows over each front
pub waiting_follows : (w : Writer) (client : ℕ) (front : Option History) → w ≡ writers.opened (writers.shard_of w) →
    FollowsWhere writes.machine client front w
waiting_follows w client front is = subst (λ (v : Writer). FollowsWhere writes.machine client front v) (sym is)
    (everywhere (writers.shard_of w) front (λ start es list. write_follows.Follows client (writers.opened (writers.shard_of w)) start es)
    (λ start es list. record { trying = record { shown = tt; owned = tt }; member = tt; asked = tt }))

module _ (client : ℕ) (front now : Option History) (P : Call → Type 0) where
  pub reader_follows : (r : Reader) (moment lease : ℕ) →
      (r.asked ≡ None) ⊎ (r ≡ readers.opened (readers.shard_of r) moment lease) → Passed client front now P →
      FollowsWhere reads.machine client front r → FollowsWhere reads.machine client now r
  reader_follows r moment lease (inr is) p f = open_follows r (readers.shard_of r) moment lease is client now
  reader_follows r moment lease (inl idle) p f = idle_follows Reader ReadAnswer reads.machine client front now read_laws.keeps P r
      (read_laws.not_open r.asked idle) (λ call h. tt) p f

  pub writer_follows : (w : Writer) → Rests w → ((call : Call) → P call → write_follows.Spares w call) → Passed client front now P →
      FollowsWhere writes.machine client front w → FollowsWhere writes.machine client now w
  writer_follows w (inl idle) spares p f = idle_follows Writer WriteAnswer writes.machine client front now write_laws.keeps P w
      (write_laws.not_open w.asked idle) spares p f
  writer_follows w (inr is) spares p f = waiting_follows w client now is

  no_look : (o : Option Look) → o ≡ None → ¬ IsSome o
  no_look o e is = let bad : false ≡ true = subst (λ (a : Option Look). IsSome a) e is in cc

  pub looker_follows : (l : Tryer Look) → l.asked ≡ None → Passed client front now P → FollowsWhere looks.machine client front l →
      FollowsWhere looks.machine client now l
  looker_follows l idle p f = idle_follows (Tryer Look) (Option ℕ) looks.machine client front now look_laws.keeps P l
      (no_look l.asked idle) (λ call h. tt) p f
