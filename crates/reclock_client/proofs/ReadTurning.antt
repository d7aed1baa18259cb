-- What an answer of the reader makes of an operator's turn.
use Rattle.std.proofs.Common.{◌≡◌, ℕ, Bool, true, false, cond, Option, Some, None, List, [], refl, sym, subst, ◌∙◌, arith}
use Rattle.std.proofs.lemmas.Bool.Decides.{nat_tests}
use Rattle.std.specs.Prelude.{⊤, nat_le}
use Rattle.update_core.specs.declared.rows.Row.{Row}
use Rattle.update_core.specs.declared.updates.Update.{Update}
use Rattle.update_core.specs.Frontiers.{after, is_at}
use Rattle.history_core.specs.declared.read_answers.ReadAnswer.{ReadAnswer}
use Rattle.history_core.specs.declared.read_answers.ReadAnswer.TheVariants as reads
use Rattle.remap_core.specs.Extending.{last_time, reached, rows_at}
use Rattle.remap_core.specs.Offsets.{unset}
use Rattle.reclock_client.specs.declared.clock_answers.ClockAnswer.TheVariants as clocks
use Rattle.reclock_client.specs.declared.courses.Course.{Course}
use Rattle.reclock_client.specs.declared.errands.Errand.{Errand}
use Rattle.reclock_client.specs.declared.errands.Errand.TheVariants as errands
use Rattle.reclock_client.specs.declared.intakes.Intake.TheVariants as intakes
use Rattle.reclock_client.specs.declared.steps.Step.{Step}
use Rattle.reclock_client.specs.declared.steps.Step.TheVariants as steps
use Rattle.reclock_client.specs.Commands.{after_join_reader, after_leave_reader, after_listen, after_snapshot, ends, forgotten, goes, minted_at}
use Rattle.reclock_client.specs.Commands.{nothing_yet}
use Rattle.reclock_client.specs.Commands.{read_all, strange, with_changes, with_content, with_late, with_listen, with_step}
use Rattle.reclock_client.specs.Reading.{foreign_time, in_time}
use Rattle.reclock_client.specs.Turns.{Clients, HasAll, Heard, IsFew, Listens, Reads, Serves, Takes, Turn, heard}
use Rattle.read_client.specs.Reading as readers
use Rattle.reclock_client.proofs.Turning.{serves_on, some_same, waits_on}

-- an errand for which the remap shard is read
abbrev pub ForReading : Errand → Type 0
ForReading errands.Sync = ⊤
ForReading (errands.Mint t seen) = ⊤
ForReading other = ⊥

-- at a step of a reading
abbrev pub IsReadStep : Step → Type 0
IsReadStep steps.Snapshot = ⊤
IsReadStep steps.Listen = ⊤
IsReadStep steps.Next = ⊤
IsReadStep other = ⊥

for_reading : (k : Clients) (h : Heard) (errand : Errand) (step : Step) → IsReadStep step → Takes k h errand step → ForReading errand
for_reading k h errands.Sync step is t = tt
for_reading k h (errands.Mint at seen) step is t = tt
for_reading k h errands.Open steps.Snapshot is t = absurd t
for_reading k h errands.Open steps.Listen is t = absurd t
for_reading k h errands.Open steps.Next is t = absurd t
for_reading k h errands.Open other is t = absurd is
for_reading k h (errands.Publish rows) steps.Snapshot is t = absurd t
for_reading k h (errands.Publish rows) steps.Listen is t = absurd t
for_reading k h (errands.Publish rows) steps.Next is t = absurd t
for_reading k h (errands.Publish rows) other is t = absurd is
for_reading k h errands.Close steps.Snapshot is t = absurd t
for_reading k h errands.Close steps.Listen is t = absurd t
for_reading k h errands.Close steps.Next is t = absurd t
for_reading k h errands.Close other is t = absurd is

-- what such an errand takes is what a reading does
pub takes_read : (k : Clients) (h : Heard) (errand : Errand) (step : Step) → ForReading errand → IsReadStep step → Reads k h step →
    Takes k h errand step
takes_read k h errands.Sync step for_ is r = r
takes_read k h (errands.Mint at seen) steps.Snapshot for_ is r = r
takes_read k h (errands.Mint at seen) steps.Listen for_ is r = r
takes_read k h (errands.Mint at seen) steps.Next for_ is r = r
takes_read k h (errands.Mint at seen) other for_ is r = absurd is
takes_read k h errands.Open step for_ is r = absurd for_
takes_read k h (errands.Publish rows) step for_ is r = absurd for_
takes_read k h errands.Close step for_ is r = absurd for_

reads_taken : (k : Clients) (h : Heard) (errand : Errand) (step : Step) → ForReading errand → IsReadStep step →
    Takes k h errand step → Reads k h step
reads_taken k h errands.Sync step for_ is t = t
reads_taken k h (errands.Mint at seen) steps.Snapshot for_ is t = t
reads_taken k h (errands.Mint at seen) steps.Listen for_ is t = t
reads_taken k h (errands.Mint at seen) steps.Next for_ is t = t
reads_taken k h (errands.Mint at seen) other for_ is t = absurd is
reads_taken k h errands.Open step for_ is t = absurd for_
reads_taken k h (errands.Publish rows) step for_ is t = absurd for_
reads_taken k h errands.Close step for_ is t = absurd for_

is_few : (errand : Errand) → ForReading errand → IsFew errand
is_few errands.Sync for_ = tt
is_few (errands.Mint t seen) for_ = tt
is_few errands.Open for_ = absurd for_
is_few (errands.Publish rows) for_ = absurd for_
is_few errands.Close for_ = absurd for_

-- ---- once the shard has been read

module _ (k : Clients) (c : Course) (all : HasAll k) (listens : Listens k (heard c)) where
  ended : Turn k (record c { errand = None })
  ended = waits_on k (heard c) c.step c.joined (record { all = all; listens = listens })

  minted_turn : (t : ℕ) (seen : List ℕ) (upper : Option ℕ) → c.errand ≡ Some (errands.Mint t seen) → Turn k (minted_at c t upper).0
  minted_turn t seen None e = ended
  minted_turn t seen (Some u) e = by (nat_le u t) refl
    where
      by : (b : Bool) → nat_le u t ≡ b → Turn k (cond b (goes c (steps.AppendRemap u)) (ends c (clocks.Lost (Some u)))).0
      by true le = serves_on k c (errands.Mint t seen) (steps.AppendRemap u) e (record {
        takes = (all, grind (arith, nat_tests));
        listens = listens;
        few = tt;
      })
      by false le = ended

  read_turn : (errand : Errand) → ForReading errand → c.errand ≡ Some errand → Turn k (read_all c (Some errand)).0
  read_turn errands.Sync for_ e = ended
  read_turn (errands.Mint t seen) for_ e = minted_turn t seen c.synced e
  read_turn errands.Open for_ e = absurd for_
  read_turn (errands.Publish rows) for_ e = absurd for_
  read_turn errands.Close for_ e = absurd for_

-- ---- the reader

module _ (k : Clients) (c : Course) (m : Option ℕ) (l : Option (Option ℕ)) where
  -- with an idle reader of this member and this listen
  abbrev now_reader : Clients
  now_reader = record k { reader_member = m; asked = None; listen = l }

  pub join_reader_turn : (errand : Errand) (answer : ReadAnswer) → c.errand ≡ Some errand → Serves k (heard c) errand steps.JoinReader →
      m ≡ readers.member_after k.reader_member answer → l ≡ readers.listen_after k.asked k.listen answer →
      Turn now_reader (after_join_reader c answer).0
  join_reader_turn errands.Open (reads.Opened member version since) e s is at =
      serves_on now_reader (forgotten (record c { since = since })) errands.Open steps.JoinData e (record {
        takes = (s.takes.0, some_same is refl);
        listens = λ on. absurd (let bad : false ≡ true = on in cc);
        few = tt;
      })
  join_reader_turn errands.Open (reads.MembersFull version) e s is at = tt
  join_reader_turn errands.Open other e s is at = tt
  join_reader_turn other answer e s is at = absurd s.takes

  pub leave_reader_turn : (errand : Errand) (answer : ReadAnswer) → c.errand ≡ Some errand → Serves k (heard c) errand steps.LeaveReader →
      l ≡ readers.listen_after k.asked k.listen answer → Turn now_reader (after_leave_reader c answer).0
  leave_reader_turn errands.Close (reads.Closed version) e s at = serves_on now_reader c errands.Close steps.LeaveData e (record {
    takes = s.takes.1;
    listens = λ on. at ∙ s.listens on;
    few = tt;
  })
  leave_reader_turn errands.Close other e s at = tt
  leave_reader_turn other answer e s at = absurd s.takes

  module _ (errand : Errand) (for_ : ForReading errand) (e : c.errand ≡ Some errand) where
    content_turn : (rows : List Row) (foreign : Option ℕ) → HasAll now_reader → Turn now_reader (with_content c rows foreign).0
    content_turn rows None all = serves_on now_reader
        (record c { bindings = []; intake = intakes.Content rows; synced = after c.since; listens = false; step = steps.Listen })
        errand steps.Listen e (record {
          takes = takes_read now_reader (record { since = c.since; synced = after c.since; listens = false }) errand steps.Listen for_ tt
              (all, refl, refl, tt);
          listens = λ on. absurd (let bad : false ≡ true = on in cc);
          few = is_few errand for_;
        })
    content_turn rows (Some t) all = waits_on now_reader (heard (record c { listens = false })) c.step c.joined (record {
      all = all;
      listens = λ on. absurd (let bad : false ≡ true = on in cc);
    })

    late_turn : (upper : Option ℕ) → HasAll now_reader → c.listens ≡ false → Turn now_reader (with_late c upper).0
    late_turn upper all off = by (is_at upper 0)
      where
        none : Course
        none = forgotten c

        by : (b : Bool) → Turn now_reader (cond b (nothing_yet c) (ends c (clocks.Early c.since))).0
        by true = subst (λ (x : Option Errand). Turn now_reader (read_all none x).0) (sym e)
            (read_turn now_reader none all (λ on. absurd (let bad : false ≡ true = on in cc)) errand for_ e)
        by false = waits_on now_reader (heard c) c.step c.joined (record {
          all = all;
          listens = λ on. absurd (let bad : false ≡ true = sym off ∙ on in cc);
        })

    pub snapshot_turn : (answer : ReadAnswer) → HasAll k → c.listens ≡ false → m ≡ readers.member_after k.reader_member answer →
        Turn now_reader (after_snapshot c answer).0
    snapshot_turn (reads.Rows rows) all off is =
        content_turn rows (foreign_time unset (rows_at c.since rows)) (all.0, some_same is all.1, all.2)
    snapshot_turn (reads.Late upper) all off is = late_turn upper (all.0, some_same is all.1, all.2) off
    snapshot_turn (reads.Early since) all off is = waits_on now_reader (heard c) c.step c.joined (record {
      all = (all.0, some_same is all.1, all.2);
      listens = λ on. absurd (let bad : false ≡ true = sym off ∙ on in cc);
    })
    snapshot_turn (reads.Expired version) all off is = tt
    snapshot_turn other all off is = tt

    changes_turn : (rows : List Update) (to foreign : Option ℕ) → HasAll now_reader → l ≡ Some to →
        Turn now_reader (with_changes c rows to foreign).0
    changes_turn rows to None all at = serves_on now_reader
        (record c { intake = intakes.Changes rows 0; synced = to; listens = true; step = steps.Next }) errand steps.Next e (record {
          takes = takes_read now_reader (record { since = c.since; synced = to; listens = true }) errand steps.Next for_ tt (all, refl);
          listens = λ on. at;
          few = is_few errand for_;
        })
    changes_turn rows to (Some t) all at = waits_on now_reader (heard (record c { listens = false })) c.step c.joined (record {
      all = all;
      listens = λ on. absurd (let bad : false ≡ true = on in cc);
    })

    step_turn : (rows : List Update) (to : Option ℕ) → HasAll now_reader → l ≡ Some to → Turn now_reader (with_step c rows to).0
    step_turn rows to all at = by (in_time (last_time c.bindings) rows)
      where
        by : (b : Bool) → Turn now_reader (cond b (with_changes c rows to (foreign_time (reached c.bindings) rows)) (strange c)).0
        by true = changes_turn rows to (foreign_time (reached c.bindings) rows) all at
        by false = tt

    all_read : HasAll now_reader → l ≡ Some c.synced → Turn now_reader (read_all (with_listen c) c.errand).0
    all_read all at = subst (λ (x : Option Errand). Turn now_reader (read_all (with_listen c) x).0) (sym e)
        (read_turn now_reader (with_listen c) all (λ on. at) errand for_ e)

    -- where the listen stands at the synced frontier
    pub listen_turn : (answer : ReadAnswer) → HasAll k → k.listen ≡ Some c.synced → m ≡ readers.member_after k.reader_member answer →
        l ≡ readers.listen_after k.asked k.listen answer → Turn now_reader (after_listen c answer).0
    listen_turn (reads.Step from to rows) all at is goes_to = step_turn rows to (all.0, some_same is all.1, all.2) goes_to
    listen_turn (reads.Quiet upper) all at is still = all_read (all.0, some_same is all.1, all.2) (still ∙ at)
    listen_turn reads.Ended all at is still = all_read (all.0, some_same is all.1, all.2) (still ∙ at)
    listen_turn (reads.Early since) all at is gone = waits_on now_reader (heard (record c { listens = false })) c.step c.joined (record {
      all = (all.0, some_same is all.1, all.2);
      listens = λ on. absurd (let bad : false ≡ true = on in cc);
    })
    listen_turn (reads.Expired version) all at is gone = tt
    listen_turn other all at is still = tt

-- a reading is a sync's or a mint's
pub syncs_or_mints : (k : Clients) (h : Heard) (errand : Errand) (step : Step) → IsReadStep step → Takes k h errand step →
    ForReading errand × Reads k h step
syncs_or_mints k h errand step is t = let for_ = for_reading k h errand step is t in (for_, reads_taken k h errand step for_ is t)
