-- Of legal inner answers the table makes nothing Damaged. Entries go newest first.
use Rattle.std.proofs.Common.{◌≡◌, ℕ, ◌≤◌, Bool, true, false, cond, Option, Some, None, List, [], ◌∷◌, refl, sym, subst, arith}
use Rattle.std.proofs.lemmas.Bool.Decides.{nat_tests}
use Rattle.std.specs.List.{AllByRecursion}
use Rattle.std.specs.Prelude.{⊤, IsSomeAnd, nat_le}
use Rattle.update_core.specs.declared.rows.Row.{Row}
use Rattle.update_core.specs.declared.updates.Update.{Update}
use Rattle.update_core.specs.Frontiers.{covers, is_at}
use Rattle.store_core.specs.declared.shards.ShardId.{ShardId}
use Rattle.store_core.specs.Stores.{Stored}
use Rattle.history_core.specs.declared.asked.Asked.{Asked}
use Rattle.history_core.specs.declared.asked.Asked.TheVariants as asks
use Rattle.history_core.specs.declared.read_answers.ReadAnswer.{ReadAnswer}
use Rattle.history_core.specs.declared.read_answers.ReadAnswer.TheVariants as reads
use Rattle.history_core.specs.declared.write_answers.WriteAnswer.{WriteAnswer}
use Rattle.history_core.specs.declared.write_answers.WriteAnswer.TheVariants as writes
use Rattle.history_core.specs.Legal.{Command, LegalReadAt, LegalWriteAt}
use Rattle.history_core.specs.Placing.{Placed}
use Rattle.load_core.specs.declared.damages.Damage.{Damage}
use Rattle.load_core.specs.declared.polls.Poll.{Poll}
use Rattle.load_core.specs.declared.polls.Poll.TheVariants as polls
use Rattle.remap_core.specs.Extending.{InTime, last_time, reached, rows_at}
use Rattle.remap_core.specs.Offsets.{unset}
use Rattle.reclock_client.specs.declared.clock_answers.ClockAnswer.{ClockAnswer}
use Rattle.reclock_client.specs.declared.clock_answers.ClockAnswer.TheVariants as clocks
use Rattle.reclock_client.specs.declared.courses.Course.{Course}
use Rattle.reclock_client.specs.declared.errands.Errand.{Errand}
use Rattle.reclock_client.specs.declared.errands.Errand.TheVariants as errands
use Rattle.reclock_client.specs.declared.steps.Step.{Step}
use Rattle.reclock_client.specs.declared.steps.Step.TheVariants as steps
use Rattle.reclock_client.specs.Asking.{AsksData, AsksReader, AsksRemap, Duties, IsAppendOf}
use Rattle.reclock_client.specs.Commands.{Next, after_append_data, after_append_remap, after_data_writer, after_join_data, after_join_reader}
use Rattle.reclock_client.specs.Commands.{after_join_remap, after_leave_data, after_leave_reader, after_leave_remap, after_listen, after_poll, after_reader}
use Rattle.reclock_client.specs.Commands.{after_remap_writer, after_snapshot, ends, forgotten, goes, minted_at, nothing_yet, published_from}
use Rattle.reclock_client.specs.Commands.{read_all, strange, with_changes, with_content, with_late, with_listen, with_step}
use Rattle.reclock_client.specs.Reading.{foreign_time, in_time}
use Rattle.reclock_client.specs.Turns.{Clients, Heard, Takes}
use Rattle.reclock_client.proofs.ReadTurning.{ForReading, syncs_or_mints}

-- it isn't Damaged
abbrev pub IsSane : Poll ClockAnswer → Type 0
IsSane (polls.Damaged damage) = ⊥
IsSane other = ⊤

none_and : (o : Option ℕ) → IsSomeAnd o (λ m. ⊥) → ⊥
none_and None h = h
none_and (Some m) h = h

none_both : (o : Option ℕ) (f : Option (Option ℕ)) → IsSomeAnd o (λ m. IsSomeAnd f (λ x. ⊥)) → ⊥
none_both None f h = h
none_both (Some m) None h = h
none_both (Some m) (Some x) h = h

-- what an inner poll comes to, where that poll isn't Damaged
pub poll_sane : (A : Type 0) (answered : A → Next) (c : Course) (p : Poll A) → ((damage : Damage) → p ≡ polls.Damaged damage → ⊥) →
    ((answer : A) → p ≡ polls.Done answer → IsSane (answered answer).1) → IsSane (after_poll answered c p).1
poll_sane A answered c polls.Busy never f = tt
poll_sane A answered c polls.More never f = tt
poll_sane A answered c polls.Fault never f = tt
poll_sane A answered c polls.Spent never f = tt
poll_sane A answered c (polls.Damaged damage) never f = absurd (never damage refl)
poll_sane A answered c (polls.Done answer) never f = f answer refl

-- ---- what asks nothing of an answer

pub published_sane : (c : Course) (upper : Option ℕ) → IsSane (published_from c upper).1
published_sane c None = tt
published_sane c (Some from) = by (covers c.synced from)
  where
    by : (b : Bool) → IsSane (cond b (goes c (steps.AppendData from)) (ends c (clocks.Published c.synced))).1
    by true = tt
    by false = tt

minted_sane : (c : Course) (t : ℕ) (upper : Option ℕ) → IsSane (minted_at c t upper).1
minted_sane c t None = tt
minted_sane c t (Some u) = by (nat_le u t)
  where
    by : (b : Bool) → IsSane (cond b (goes c (steps.AppendRemap u)) (ends c (clocks.Lost (Some u)))).1
    by true = tt
    by false = tt

read_sane : (c : Course) (errand : Errand) → ForReading errand → IsSane (read_all c (Some errand)).1
read_sane c errands.Sync for_ = tt
read_sane c (errands.Mint t seen) for_ = minted_sane c t c.synced
read_sane c errands.Open for_ = absurd for_
read_sane c (errands.Publish rows) for_ = absurd for_
read_sane c errands.Close for_ = absurd for_

read_at : (c : Course) (e : Option Errand) (errand : Errand) → e ≡ Some errand → ForReading errand → IsSane (read_all c e).1
read_at c e errand is for_ = subst (λ (x : Option Errand). IsSane (read_all c x).1) (sym is) (read_sane c errand for_)

content_sane : (c : Course) (rows : List Row) (foreign : Option ℕ) → IsSane (with_content c rows foreign).1
content_sane c rows None = tt
content_sane c rows (Some t) = tt

changes_sane : (c : Course) (rows : List Update) (to foreign : Option ℕ) → IsSane (with_changes c rows to foreign).1
changes_sane c rows to None = tt
changes_sane c rows to (Some t) = tt

late_sane : (c : Course) (upper : Option ℕ) (errand : Errand) → c.errand ≡ Some errand → ForReading errand → IsSane (with_late c upper).1
late_sane c upper errand e for_ = by (is_at upper 0)
  where
    by : (b : Bool) → IsSane (cond b (nothing_yet c) (ends c (clocks.Early c.since))).1
    by true = read_at (forgotten c) c.errand errand e for_
    by false = tt

-- ---- an answer at a step

-- the rows of a step are in the order of time
abbrev pub InOrder : Course → ReadAnswer → Type 0
InOrder c (reads.Step from to rows) = in_time (last_time c.bindings) rows ≡ true
InOrder c other = ⊤

abbrev pub AtListen : Course → Step → ReadAnswer → Type 0
AtListen c steps.Listen answer = InOrder c answer
AtListen c steps.Next answer = InOrder c answer
AtListen c other answer = ⊤

module _ (k : Clients) (h : Heard) (c : Course) (d : Duties) (list : List Update) (start : Stored) (cmd : Command) (ps : List Placed) where
  join_remap_sane : (errand : Errand) (shard : ShardId) (answer : WriteAnswer) → Takes k h errand steps.JoinRemap →
      LegalWriteAt list start cmd ps (asks.OpenWriter shard) answer → IsSane (after_join_remap c (Some errand) answer).1
  join_remap_sane errands.Open shard (writes.Opened member version) t l = tt
  join_remap_sane errands.Open shard (writes.MembersFull version) t l = tt
  join_remap_sane errands.Open shard other t l = absurd (none_and cmd.member l)
  join_remap_sane (errands.Mint time seen) shard (writes.Opened member version) t l = tt
  join_remap_sane (errands.Mint time seen) shard (writes.MembersFull version) t l = tt
  join_remap_sane (errands.Mint time seen) shard other t l = absurd (none_and cmd.member l)
  join_remap_sane other shard answer t l = absurd t

  append_remap_sane : (errand : Errand) (rows : List Update) (lower from : ℕ) (upper : Option ℕ) (answer : WriteAnswer) →
      Takes k h errand (steps.AppendRemap from) → LegalWriteAt list start cmd ps (asks.Append rows lower upper) answer →
      IsSane (after_append_remap c (Some errand) answer).1
  append_remap_sane (errands.Mint time seen) rows lower from upper writes.Ok t l = tt
  append_remap_sane (errands.Mint time seen) rows lower from upper (writes.Mismatch current) t l = tt
  append_remap_sane (errands.Mint time seen) rows lower from upper (writes.Heavy weight) t l = tt
  append_remap_sane (errands.Mint time seen) rows lower from upper other t l = absurd (none_and cmd.member l)
  append_remap_sane other rows lower from upper answer t l = absurd t

  leave_remap_sane : (errand : Errand) (answer : WriteAnswer) → Takes k h errand steps.LeaveRemap →
      LegalWriteAt list start cmd ps asks.CloseWriter answer → IsSane (after_leave_remap c (Some errand) answer).1
  leave_remap_sane errands.Close (writes.Closed version) t l = tt
  leave_remap_sane errands.Close other t l = absurd (none_and cmd.member l)
  leave_remap_sane (errands.Mint time seen) (writes.Closed version) t l = tt
  leave_remap_sane (errands.Mint time seen) other t l = absurd (none_and cmd.member l)
  leave_remap_sane other answer t l = absurd t

  join_data_sane : (errand : Errand) (shard : ShardId) (answer : WriteAnswer) → Takes k h errand steps.JoinData →
      LegalWriteAt list start cmd ps (asks.OpenWriter shard) answer → IsSane (after_join_data c (Some errand) answer).1
  join_data_sane errands.Open shard (writes.Opened member version) t l = tt
  join_data_sane errands.Open shard (writes.MembersFull version) t l = tt
  join_data_sane errands.Open shard other t l = absurd (none_and cmd.member l)
  join_data_sane (errands.Publish rows) shard (writes.Opened member version) t l = tt
  join_data_sane (errands.Publish rows) shard (writes.MembersFull version) t l = tt
  join_data_sane (errands.Publish rows) shard other t l = absurd (none_and cmd.member l)
  join_data_sane other shard answer t l = absurd t

  append_data_sane : (rows : List Update) (lower : ℕ) (upper : Option ℕ) (answer : WriteAnswer) →
      LegalWriteAt list start cmd ps (asks.Append rows lower upper) answer → IsSane (after_append_data c answer).1
  append_data_sane rows lower upper writes.Ok l = tt
  append_data_sane rows lower upper (writes.Mismatch current) l = published_sane c current
  append_data_sane rows lower upper (writes.Heavy weight) l = tt
  append_data_sane rows lower upper other l = absurd (none_and cmd.member l)

  leave_data_sane : (errand : Errand) (answer : WriteAnswer) → Takes k h errand steps.LeaveData →
      LegalWriteAt list start cmd ps asks.CloseWriter answer → IsSane (after_leave_data c (Some errand) answer).1
  leave_data_sane errands.Close (writes.Closed version) t l = tt
  leave_data_sane errands.Close other t l = absurd (none_and cmd.member l)
  leave_data_sane (errands.Publish rows) (writes.Closed version) t l = tt
  leave_data_sane (errands.Publish rows) other t l = absurd (none_and cmd.member l)
  leave_data_sane other answer t l = absurd t

  as_append : (rows : Option (List Update × Option ℕ)) (from : ℕ) (asked : Asked) (answer : WriteAnswer) → IsAppendOf rows from asked →
      LegalWriteAt list start cmd ps asked answer → {P : Type 0} →
      ((us : List Update) (upper : Option ℕ) → LegalWriteAt list start cmd ps (asks.Append us from upper) answer → P) → P
  as_append None from asked answer is l f = absurd is
  as_append (Some rows) from asked answer is l f =
      f rows.0 rows.1 (subst (λ (x : Asked). LegalWriteAt list start cmd ps x answer) is l)

  module _ (errand : Errand) (e : c.errand ≡ Some errand) where
    pub remap_sane : (at : Step) (asked : Asked) (answer : WriteAnswer) → Takes k h errand at → AsksRemap d at asked →
        LegalWriteAt list start cmd ps asked answer → IsSane (after_remap_writer c at answer).1
    remap_sane steps.JoinRemap asked answer t is l =
        subst (λ (x : Option Errand). IsSane (after_join_remap c x answer).1) (sym e) (join_remap_sane errand d.remap_at answer t
        (subst (λ (x : Asked). LegalWriteAt list start cmd ps x answer) is l))
    remap_sane (steps.AppendRemap from) asked answer t is l =
        subst (λ (x : Option Errand). IsSane (after_append_remap c x answer).1) (sym e) (as_append d.rises from asked answer is l
        (λ us upper legal. append_remap_sane errand us from from upper answer t legal))
    remap_sane steps.LeaveRemap asked answer t is l =
        subst (λ (x : Option Errand). IsSane (after_leave_remap c x answer).1) (sym e) (leave_remap_sane errand answer t
        (subst (λ (x : Asked). LegalWriteAt list start cmd ps x answer) is l))
    remap_sane other asked answer t is l = absurd is

    pub data_sane : (at : Step) (asked : Asked) (answer : WriteAnswer) → Takes k h errand at → AsksData d at asked →
        LegalWriteAt list start cmd ps asked answer → IsSane (after_data_writer c at answer).1
    data_sane steps.JoinData asked answer t is l =
        subst (λ (x : Option Errand). IsSane (after_join_data c x answer).1) (sym e) (join_data_sane errand d.data_at answer t
        (subst (λ (x : Asked). LegalWriteAt list start cmd ps x answer) is l))
    data_sane (steps.AppendData from) asked answer t is l = as_append (d.slice from) from asked answer is l
        (λ us upper legal. append_data_sane us from upper answer legal)
    data_sane steps.LeaveData asked answer t is l =
        subst (λ (x : Option Errand). IsSane (after_leave_data c x answer).1) (sym e) (leave_data_sane errand answer t
        (subst (λ (x : Asked). LegalWriteAt list start cmd ps x answer) is l))
    data_sane other asked answer t is l = absurd is

    -- ---- the reader

    join_reader_sane : (shard : ShardId) (moment lease : ℕ) (answer : ReadAnswer) →
        LegalReadAt list start cmd ps (asks.OpenReader shard moment lease) answer → IsSane (after_join_reader c answer).1
    join_reader_sane shard moment lease (reads.Opened member version since) l = tt
    join_reader_sane shard moment lease (reads.MembersFull version) l = tt
    join_reader_sane shard moment lease other l = absurd (none_and cmd.member l)

    snapshot_sane : (t : ℕ) (answer : ReadAnswer) → ForReading errand → LegalReadAt list start cmd ps (asks.Snapshot t) answer →
        IsSane (after_snapshot c answer).1
    snapshot_sane t (reads.Rows rows) for_ l = content_sane c rows (foreign_time unset (rows_at c.since rows))
    snapshot_sane t (reads.Late upper) for_ l = late_sane c upper errand e for_
    snapshot_sane t (reads.Early since) for_ l = tt
    snapshot_sane t (reads.Expired version) for_ l = tt
    snapshot_sane t other for_ l = absurd (none_and cmd.member l)

    step_sane : (rows : List Update) (to : Option ℕ) → in_time (last_time c.bindings) rows ≡ true → IsSane (with_step c rows to).1
    step_sane rows to order =
        subst (λ (b : Bool). IsSane (cond b (with_changes c rows to (foreign_time (reached c.bindings) rows)) (strange c)).1) (sym order)
        (changes_sane c rows to (foreign_time (reached c.bindings) rows))

    listen_sane : (as_of : ℕ) (answer : ReadAnswer) → ForReading errand → InOrder c answer →
        LegalReadAt list start cmd ps (asks.Listen as_of) answer → IsSane (after_listen c answer).1
    listen_sane as_of (reads.Step from to rows) for_ order l = step_sane rows to order
    listen_sane as_of (reads.Quiet upper) for_ order l = read_at (with_listen c) c.errand errand e for_
    listen_sane as_of reads.Ended for_ order l = read_at (with_listen c) c.errand errand e for_
    listen_sane as_of (reads.Early since) for_ order l = tt
    listen_sane as_of (reads.Expired version) for_ order l = tt
    listen_sane as_of other for_ order l = absurd (none_and cmd.member l)

    next_sane : (answer : ReadAnswer) → ForReading errand → InOrder c answer → LegalReadAt list start cmd ps asks.Next answer →
        IsSane (after_listen c answer).1
    next_sane (reads.Step from to rows) for_ order l = step_sane rows to order
    next_sane (reads.Quiet upper) for_ order l = read_at (with_listen c) c.errand errand e for_
    next_sane reads.Ended for_ order l = read_at (with_listen c) c.errand errand e for_
    next_sane (reads.Early since) for_ order l = tt
    next_sane (reads.Expired version) for_ order l = tt
    next_sane other for_ order l = absurd (none_both cmd.member cmd.listen l)

    leave_reader_sane : (answer : ReadAnswer) → LegalReadAt list start cmd ps asks.CloseReader answer → IsSane (after_leave_reader c answer).1
    leave_reader_sane (reads.Closed version) l = tt
    leave_reader_sane other l = absurd (none_and cmd.member l)

    pub reader_sane : (at : Step) (asked : Asked) (answer : ReadAnswer) → Takes k h errand at → AsksReader d at asked → AtListen c at answer →
        LegalReadAt list start cmd ps asked answer → IsSane (after_reader c at answer).1
    reader_sane steps.JoinReader asked answer t is order l = join_reader_sane d.remap_at d.moment d.lease answer
        (subst (λ (x : Asked). LegalReadAt list start cmd ps x answer) is l)
    reader_sane steps.Snapshot asked answer t is order l = snapshot_sane d.since answer (syncs_or_mints k h errand steps.Snapshot tt t).0
        (subst (λ (x : Asked). LegalReadAt list start cmd ps x answer) is l)
    reader_sane steps.Listen asked answer t is order l = listen_sane d.since answer (syncs_or_mints k h errand steps.Listen tt t).0 order
        (subst (λ (x : Asked). LegalReadAt list start cmd ps x answer) is l)
    reader_sane steps.Next asked answer t is order l = next_sane answer (syncs_or_mints k h errand steps.Next tt t).0 order
        (subst (λ (x : Asked). LegalReadAt list start cmd ps x answer) is l)
    reader_sane steps.LeaveReader asked answer t is order l = leave_reader_sane answer
        (subst (λ (x : Asked). LegalReadAt list start cmd ps x answer) is l)
    reader_sane other asked answer t is order l = absurd is

-- ---- the order of a step's rows

-- the last time of bindings that a time covers isn't past it
pub last_covered : (bs : List (ℕ × List ℕ)) (f : ℕ) → AllByRecursion (λ b. covers (Some f) b.0 ≡ true) bs → last_time bs ≤ f
last_covered [] f all = omega arith
last_covered (b ∷ []) f all = let c : covers (Some f) b.0 ≡ true = all.0 in grind (arith, nat_tests)
last_covered (b ∷ d ∷ bs) f all = last_covered (d ∷ bs) f all.1

pub in_order : (us : List Update) (t f : ℕ) → t ≤ f → InTime f us → in_time t us ≡ true
in_order [] t f le h = refl
in_order (u ∷ us) t f le h =
    subst (λ (b : Bool). cond b (in_time u.time us) false ≡ true) (sym (below t f u.time le h.0))
    (in_order us u.time u.time (omega arith) h.1)
  where
    below : (a b c : ℕ) → a ≤ b → b ≤ c → nat_le a c ≡ true
    below a b c x y = grind (arith, nat_tests)
