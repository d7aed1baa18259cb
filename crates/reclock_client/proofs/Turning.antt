-- What an answer of an inner machine makes of an operator's turn.
use Rattle.std.proofs.Common.{◌≡◌, ℕ, ◌≤◌, Bool, true, false, cond, Option, Some, None, List, length, refl, sym, subst, ◌∙◌, inl, inr}
use Rattle.std.specs.Prelude.{◌⊎◌, IsSome}
use Rattle.update_core.specs.Frontiers.{covers}
use Rattle.history_core.specs.declared.write_answers.WriteAnswer.{WriteAnswer}
use Rattle.history_core.specs.declared.write_answers.WriteAnswer.TheVariants as writes
use Rattle.write_client.specs.Writing as writers
use Rattle.remap_core.specs.declared.source_rows.SourceRow.{SourceRow}
use Rattle.reclock_client.specs.declared.clock_answers.ClockAnswer.TheVariants as clocks
use Rattle.reclock_client.specs.declared.courses.Course.{Course}
use Rattle.reclock_client.specs.declared.errands.Errand.{Errand}
use Rattle.reclock_client.specs.declared.errands.Errand.TheVariants as errands
use Rattle.reclock_client.specs.declared.operators.Operator.{Operator}
use Rattle.reclock_client.specs.declared.steps.Step.{Step}
use Rattle.reclock_client.specs.declared.steps.Step.TheVariants as steps
use Rattle.reclock_client.specs.Commands.{after_append_data, after_append_remap, after_join_data, after_join_remap, after_leave_data}
use Rattle.reclock_client.specs.Commands.{after_leave_remap, changes_member, ends, goes, published_from, reading_step}
use Rattle.reclock_client.specs.Turns.{Clients, HasAll, Heard, AtStep, Listens, Serves, Takes, Turn, TurnBy, Waits}
use Rattle.reclock_client.specs.Turns.{clients, heard}

-- ---- a command goes on, or ends

pub some_same : {m n : Option ℕ} → m ≡ n → IsSome n → IsSome m
some_same e some = subst (λ (x : Option ℕ). IsSome x) (sym e) some

-- an open command is served
module _ (o : Operator) (turn : AtStep o) (busy : IsSome o.course.errand) (step : Step) (at : o.course.step ≡ step) where
  pub serves_at : {P : Type 0} → ((errand : Errand) → o.course.errand ≡ Some errand →
      Serves (clients o) (heard o.course) errand step → P) → P
  serves_at {P} f = by o.course.errand refl busy turn
    where
      by : (x : Option Errand) → o.course.errand ≡ x → IsSome x → TurnBy (clients o) (heard o.course) x o.course.step o.course.joined → P
      by None e some t = absurd (let bad : false ≡ true = some in cc)
      by (Some errand) e some t = f errand e (subst (λ (x : Step). Serves (clients o) (heard o.course) errand x) at t)

pub serves_on : (k : Clients) (c : Course) (errand : Errand) (step : Step) → c.errand ≡ Some errand → Serves k (heard c) errand step →
    TurnBy k (heard c) c.errand step c.joined
serves_on k c errand step e s = subst (λ (x : Option Errand). TurnBy k (heard c) x step c.joined) (sym e) s

pub waits_on : (k : Clients) (h : Heard) (step : Step) (joined : Bool) → Waits k h → TurnBy k h None step joined
waits_on k h step true w = w
waits_on k h step false w = tt

-- each step but those that change a member has all members
pub stays : (k : Clients) (h : Heard) (errand : Errand) (step : Step) → Takes k h errand step → (changes_member step ≡ true) ⊎ HasAll k
stays k h errands.Open steps.JoinRemap t = inl refl
stays k h errands.Open steps.JoinReader t = inl refl
stays k h errands.Open steps.JoinData t = inl refl
stays k h errands.Open other t = absurd t
stays k h errands.Sync steps.Snapshot t = inr t.0
stays k h errands.Sync steps.Listen t = inr t.0
stays k h errands.Sync steps.Next t = inr t.0
stays k h errands.Sync other t = absurd t
stays k h (errands.Mint at seen) steps.Snapshot t = inr t.0
stays k h (errands.Mint at seen) steps.Listen t = inr t.0
stays k h (errands.Mint at seen) steps.Next t = inr t.0
stays k h (errands.Mint at seen) (steps.AppendRemap from) t = inr t.0
stays k h (errands.Mint at seen) steps.LeaveRemap t = inl refl
stays k h (errands.Mint at seen) steps.JoinRemap t = inl refl
stays k h (errands.Mint at seen) other t = absurd t
stays k h (errands.Publish rows) steps.Look t = inr t
stays k h (errands.Publish rows) (steps.AppendData from) t = inr t.0
stays k h (errands.Publish rows) steps.LeaveData t = inl refl
stays k h (errands.Publish rows) steps.JoinData t = inl refl
stays k h (errands.Publish rows) other t = absurd t
stays k h errands.Close steps.LeaveRemap t = inl refl
stays k h errands.Close steps.LeaveReader t = inl refl
stays k h errands.Close steps.LeaveData t = inl refl
stays k h errands.Close other t = absurd t

-- a command that ends without an answer; the members are what they were
pub broken_turn : (k : Clients) (h : Heard) (errand : Errand) (step : Step) (joined : Bool) → Serves k h errand step →
    TurnBy k h None step (cond (changes_member step) false joined)
broken_turn k h errand step joined s = by (changes_member step) refl (stays k h errand step s.takes)
  where
    by : (b : Bool) → changes_member step ≡ b → (changes_member step ≡ true) ⊎ HasAll k → TurnBy k h None step (cond b false joined)
    by true e which = tt
    by false e (inl yes_) = absurd (let bad : false ≡ true = sym e ∙ yes_ in cc)
    by false e (inr all) = waits_on k h step joined (record { all = all; listens = s.listens })

-- the remap shard is read, for a sync or a mint
pub sync_reads : (k : Clients) (h : Heard) → HasAll k → Takes k h errands.Sync (cond h.listens steps.Next steps.Snapshot)
sync_reads k h all = by h.listens refl
  where
    by : (b : Bool) → h.listens ≡ b → Takes k h errands.Sync (cond b steps.Next steps.Snapshot)
    by true e = (all, e)
    by false e = (all, e)

pub mint_reads : (k : Clients) (h : Heard) (t : ℕ) (seen : List ℕ) → HasAll k →
    Takes k h (errands.Mint t seen) (cond h.listens steps.Next steps.Snapshot)
mint_reads k h t seen all = by h.listens refl
  where
    by : (b : Bool) → h.listens ≡ b → Takes k h (errands.Mint t seen) (cond b steps.Next steps.Snapshot)
    by true e = (all, e)
    by false e = (all, e)

-- ---- the remap shard's writer

module _ (k : Clients) (c : Course) (m : Option ℕ) where
  -- with another member of that writer
  abbrev now_remap : Clients
  now_remap = record k { remap_member = m }

  pub join_remap_turn : (errand : Errand) (answer : WriteAnswer) → c.errand ≡ Some errand → Serves k (heard c) errand steps.JoinRemap →
      m ≡ writers.member_after k.remap_member answer → Turn now_remap (after_join_remap c (Some errand) answer).0
  join_remap_turn errands.Open (writes.Opened member version) e s is = serves_on now_remap c errands.Open steps.JoinReader e (record {
    takes = (some_same is refl, s.takes);
    listens = s.listens;
    few = tt;
  })
  join_remap_turn (errands.Mint t seen) (writes.Opened member version) e s is =
      serves_on now_remap c (errands.Mint t seen) (reading_step c) e (record {
        takes = mint_reads now_remap (heard c) t seen (some_same is refl, s.takes.0, s.takes.1);
        listens = s.listens;
        few = tt;
      })
  join_remap_turn errand (writes.MembersFull version) e s is = tt
  join_remap_turn errand other e s is = tt

  pub append_remap_turn : (from : ℕ) (errand : Errand) (answer : WriteAnswer) → c.errand ≡ Some errand →
      Serves k (heard c) errand (steps.AppendRemap from) → m ≡ writers.member_after k.remap_member answer →
      Turn now_remap (after_append_remap c (Some errand) answer).0
  append_remap_turn from (errands.Mint t seen) writes.Ok e s is = waits_on now_remap (heard c) c.step c.joined (record {
    all = (some_same is s.takes.0.0, s.takes.0.1, s.takes.0.2);
    listens = s.listens;
  })
  append_remap_turn from (errands.Mint t seen) (writes.Mismatch current) e s is =
      serves_on now_remap c (errands.Mint t seen) (reading_step c) e (record {
        takes = mint_reads now_remap (heard c) t seen (some_same is s.takes.0.0, s.takes.0.1, s.takes.0.2);
        listens = s.listens;
        few = tt;
      })
  append_remap_turn from (errands.Mint t seen) (writes.Heavy weight) e s is = waits_on now_remap (heard c) c.step c.joined (record {
    all = (some_same is s.takes.0.0, s.takes.0.1, s.takes.0.2);
    listens = s.listens;
  })
  append_remap_turn from (errands.Mint t seen) other e s is = tt
  append_remap_turn from other answer e s is = absurd s.takes

  pub leave_remap_turn : (errand : Errand) (answer : WriteAnswer) → c.errand ≡ Some errand → Serves k (heard c) errand steps.LeaveRemap →
      Turn now_remap (after_leave_remap c (Some errand) answer).0
  leave_remap_turn errands.Close (writes.Closed version) e s = serves_on now_remap c errands.Close steps.LeaveReader e (record {
    takes = (s.takes.1, s.takes.2);
    listens = s.listens;
    few = tt;
  })
  leave_remap_turn (errands.Mint t seen) (writes.Closed version) e s =
      serves_on now_remap c (errands.Mint t seen) steps.JoinRemap e (record {
        takes = (s.takes.1, s.takes.2);
        listens = s.listens;
        few = tt;
      })
  leave_remap_turn errand other e s = tt

-- ---- the data shard's writer, and the look

module _ (k : Clients) (c : Course) where
  pub publish_turn : (rows : List SourceRow) (upper : Option ℕ) → c.errand ≡ Some (errands.Publish rows) → HasAll k → Listens k (heard c) →
      length rows ≤ 65536 → Turn k (published_from c upper).0
  publish_turn rows None e all listens few = waits_on k (heard c) c.step c.joined (record { all = all; listens = listens })
  publish_turn rows (Some from) e all listens few = by (covers c.synced from) refl
    where
      by : (b : Bool) → covers c.synced from ≡ b →
          Turn k (cond b (goes c (steps.AppendData from)) (ends c (clocks.Published c.synced))).0
      by true covered = serves_on k c (errands.Publish rows) (steps.AppendData from) e (record {
        takes = (all, covered);
        listens = listens;
        few = few;
      })
      by false covered = waits_on k (heard c) c.step c.joined (record { all = all; listens = listens })

module _ (k : Clients) (c : Course) (m : Option ℕ) where
  abbrev now_data : Clients
  now_data = record k { data_member = m }

  pub join_data_turn : (errand : Errand) (answer : WriteAnswer) → c.errand ≡ Some errand → Serves k (heard c) errand steps.JoinData →
      m ≡ writers.member_after k.data_member answer → Turn now_data (after_join_data c (Some errand) answer).0
  join_data_turn errands.Open (writes.Opened member version) e s is = record {
    all = (s.takes.0, s.takes.1, some_same is refl);
    listens = s.listens;
  }
  join_data_turn (errands.Publish rows) (writes.Opened member version) e s is =
      serves_on now_data c (errands.Publish rows) steps.Look e (record {
        takes = (s.takes.0, s.takes.1, some_same is refl);
        listens = s.listens;
        few = s.few;
      })
  join_data_turn errand (writes.MembersFull version) e s is = tt
  join_data_turn errand other e s is = tt

  pub append_data_turn : (from : ℕ) (errand : Errand) (answer : WriteAnswer) → c.errand ≡ Some errand →
      Serves k (heard c) errand (steps.AppendData from) → m ≡ writers.member_after k.data_member answer →
      Turn now_data (after_append_data c answer).0
  append_data_turn from (errands.Publish rows) writes.Ok e s is = waits_on now_data (heard c) c.step c.joined (record {
    all = (s.takes.0.0, s.takes.0.1, some_same is s.takes.0.2);
    listens = s.listens;
  })
  append_data_turn from (errands.Publish rows) (writes.Mismatch current) e s is =
      publish_turn now_data c rows current e (s.takes.0.0, s.takes.0.1, some_same is s.takes.0.2) s.listens s.few
  append_data_turn from (errands.Publish rows) (writes.Heavy weight) e s is = waits_on now_data (heard c) c.step c.joined (record {
    all = (s.takes.0.0, s.takes.0.1, some_same is s.takes.0.2);
    listens = s.listens;
  })
  append_data_turn from (errands.Publish rows) other e s is = tt
  append_data_turn from other answer e s is = absurd s.takes

  pub leave_data_turn : (errand : Errand) (answer : WriteAnswer) → c.errand ≡ Some errand → Serves k (heard c) errand steps.LeaveData →
      Turn now_data (after_leave_data c (Some errand) answer).0
  leave_data_turn errands.Close (writes.Closed version) e s = tt
  leave_data_turn (errands.Publish rows) (writes.Closed version) e s = serves_on now_data c (errands.Publish rows) steps.JoinData e
      (record {
        takes = (s.takes.0, s.takes.1);
        listens = s.listens;
        few = s.few;
      })
  leave_data_turn errand other e s = tt
