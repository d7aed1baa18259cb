-- What the calls of the line `compact` come to in a session. Entries go newest first.
use Rattle.std.proofs.Common.{◌≡◌, ◌≢◌, ℕ, ◌+◌, ◌<◌, ◌≤◌, Option, Some, Result, Ok, Err, List, ◌∷◌, refl, sym, ap, subst, ◌∙◌, arith, inr}
use Rattle.std.specs.Prelude.{IsSome, unwrap_or}
use Rattle.update_core.specs.declared.updates.Update.{Update}
use Rattle.store_core.specs.declared.shards.ShardId.{ShardId}
use Rattle.store_core.specs.declared.entries.Entry.{Entry}
use Rattle.store_core.specs.Stores.{Stored}
use Rattle.store_core.specs.Histories.{History}
use Rattle.store_core.specs.Newest.{replay_back}
use Rattle.state_core.specs.declared.transitions.Transition.TheVariants.{Renew}
use Rattle.state_core.specs.States.{ShardState}
use Rattle.history_core.specs.declared.asked.Asked.{Asked}
use Rattle.history_core.specs.declared.asked.Asked.TheVariants as asks
use Rattle.history_core.specs.declared.read_answers.ReadAnswer.{ReadAnswer}
use Rattle.history_core.specs.declared.read_answers.ReadAnswer.TheVariants as reads
use Rattle.history_core.specs.declared.collect_answers.CollectAnswer.{CollectAnswer}
use Rattle.write_client.specs.declared.writers.Writer.{Writer}
use Rattle.write_client.specs.Machining as write
use Rattle.write_client.proofs.Machining as write_machine
use Rattle.read_client.specs.declared.readers.Reader.{Reader}
use Rattle.read_client.specs.Machining as read
use Rattle.read_client.specs.Following as reader_following
use Rattle.read_client.specs.Reading as readers
use Rattle.read_client.proofs.Machining as read_machine
use Rattle.maint_client.specs.Collecting.{CollectKept, collecting}
use Rattle.feed_text.specs.declared.feed_lines.FeedLine.TheVariants.{Compact}
use Rattle.feed_text.specs.declared.replies.RunReply.TheVariants as replies
use Rattle.driving.specs.Drives.{Answered}
use Rattle.driving.specs.Goings.{Goes, GrowsBy}
use Rattle.driving.proofs.GoingLaws.{Between, going_so, more_going}
use Rattle.plain_run.specs.declared.places.Place.{Place}
use Rattle.plain_run.specs.declared.session_faults.SessionFault.{SessionFault}
use Rattle.plain_run.specs.declared.session_faults.SessionFault.TheVariants as faults
use Rattle.plain_run.specs.declared.sessions.Session.{Session}
use Rattle.plain_run.specs.Answering.{AnswersLine, Closed, ReaderReady, Ready, Tends, TendsTo, number_of, renewed}
use Rattle.plain_run.specs.Drives.{Failed}
use Rattle.plain_run.specs.PlainRuns.{View}
use Rattle.plain_run.specs.Sessions.{ViewAt}
use Rattle.plain_run.specs.Settling.{GetsSettled, IsSettledIn, StaysSettled}
use Rattle.plain_run.proofs.DriveLaws.{lawful_last, unmoved}
use Rattle.plain_run.proofs.Keepers.{renewed_view}
use Rattle.plain_run.proofs.Quietly.{quiet_view}
use Rattle.plain_run.proofs.ReadLaws.{reading, stands_still}
use Rattle.plain_run.proofs.ReplyLaws.{Begun, failed_more, writer_waits}
use Rattle.plain_run.proofs.SessionLaws.{all_quiet, waits}
use Rattle.plain_run.proofs.SettledLaws.{leave_closes, quiet_settled, step_settled}

module _ (place : Place) where
  -- ---- one after the other

  -- a fault after earlier entries
  tends_fails : (a b d : Option History) (reader : ℕ) (how how2 how3 : Stored → Stored → Type 0) (fault : SessionFault) →
      Goes place.shard a b (TendsTo place.shard reader how (Ok tt)) → Goes place.shard b d (TendsTo place.shard reader how2 (Err fault)) →
      Goes place.shard a d (TendsTo place.shard reader how3 (Err fault))
  tends_fails a b d reader how how2 how3 faults.Damaged x y =
      more_going place.shard a b d (TendsTo place.shard reader how (Ok tt)) (TendsTo place.shard reader how2 (Err faults.Damaged))
      (TendsTo place.shard reader how3 (Err faults.Damaged)) x y
      (λ list start es mid now b1 b2 f g view v. g view (f view v).0)
  tends_fails a b d reader how how2 how3 faults.Memory x y = failed_more place a b d (TendsTo place.shard reader how (Ok tt)) faults.Memory x y
  tends_fails a b d reader how how2 how3 faults.Store x y = failed_more place a b d (TendsTo place.shard reader how (Ok tt)) faults.Store x y
  tends_fails a b d reader how how2 how3 faults.MembersFull x y =
      failed_more place a b d (TendsTo place.shard reader how (Ok tt)) faults.MembersFull x y
  tends_fails a b d reader how how2 how3 faults.Spent x y = failed_more place a b d (TendsTo place.shard reader how (Ok tt)) faults.Spent x y

  pub tends_more : (a b d : Option History) (reader : ℕ) (how how2 how3 : Stored → Stored → Type 0) (result : Result Unit SessionFault) →
      ((x y z : Stored) → how x y → how2 y z → how3 x z) →
      Goes place.shard a b (TendsTo place.shard reader how (Ok tt)) → Goes place.shard b d (TendsTo place.shard reader how2 result) →
      Goes place.shard a d (TendsTo place.shard reader how3 result)
  tends_more a b d reader how how2 how3 (Ok done) both x y =
      more_going place.shard a b d (TendsTo place.shard reader how (Ok tt)) (TendsTo place.shard reader how2 (Ok done))
      (TendsTo place.shard reader how3 (Ok done)) x y
      (λ list start es mid now b1 b2 f g view v.
      let (at, first) = f view v in
      let (there, second) = g view at in
      (there, both (replay_back start es) (replay_back start mid) (replay_back start now) first second))
  tends_more a b d reader how how2 how3 (Err fault) both x y = tends_fails a b d reader how how2 how3 fault x y

  -- a command that was not answered
  pub failed_tends : (a d : Option History) (reader : ℕ) (how : Stored → Stored → Type 0) (fault : SessionFault) →
      Goes place.shard a d (λ list start es now. Failed place.shard fault start es now) →
      Goes place.shard a d (TendsTo place.shard reader how (Err fault))
  failed_tends a d reader how faults.Damaged went =
      going_so place.shard a d (λ list start es now. ⊥) (TendsTo place.shard reader how (Err faults.Damaged)) went
      (λ list start es now b x. absurd x)
  failed_tends a d reader how faults.Memory went = went
  failed_tends a d reader how faults.Store went = went
  failed_tends a d reader how faults.MembersFull went = went
  failed_tends a d reader how faults.Spent went = went

-- a place of the shard
abbrev pub somewhere : ShardId → Place
somewhere shard = record { shard = shard; writer = 0; reader = 0; others = 0 }

-- ---- while other clients work

pub both_wait : (s : Session) (a d : Option History) (other : ℕ) → s.place.writer < other → s.place.reader < other → GrowsBy other a d →
    Ready a s → Ready d s
both_wait s a d other above_writer above_reader by ready = record {
  apart = ready.apart;
  above_writer = ready.above_writer;
  above_reader = ready.above_reader;
  writer = record {
    shard = ready.writer.shard;
    sound = ready.writer.sound;
    follows = waits write.machine write_machine.keeps s.place.writer other (λ is. omega (arith, is, above_writer)) s.writer a d by
        ready.writer.follows;
    free = ready.writer.free;
    member = ready.writer.member;
  };
  reader = record {
    shard = ready.reader.shard;
    sound = ready.reader.sound;
    follows = waits read.machine read_machine.keeps s.place.reader other (λ is. omega (arith, is, above_reader)) s.reader a d by
        ready.reader.follows;
    free = ready.reader.free;
    member = ready.reader.member;
  };
}

-- ---- the reader's lease

-- an answer that says so leaves the member
renewed_keeps : (member : Option ℕ) (answer : ReadAnswer) (done : Unit) → renewed answer ≡ Ok done → readers.member_after member answer ≡ member
renewed_keeps member (reads.Renewed version) done is = refl
renewed_keeps member (reads.Rows rows) done is = cc
renewed_keeps member (reads.Early since) done is = cc
renewed_keeps member (reads.Late upper) done is = cc
renewed_keeps member (reads.Step from to rows) done is = cc
renewed_keeps member (reads.Quiet upper) done is = cc
renewed_keeps member reads.Ended done is = cc
renewed_keeps member (reads.Advanced version) done is = cc
renewed_keeps member (reads.Back since) done is = cc
renewed_keeps member (reads.Opened joined version since) done is = cc
renewed_keeps member (reads.MembersFull version) done is = cc
renewed_keeps member (reads.Closed version) done is = cc
renewed_keeps member (reads.Expired version) done is = cc

module _ (shard : ShardId) (client : ℕ) (a d : Option History) where
  pub renews : (number : ℕ) (listen : Option (Option ℕ)) (moment : ℕ) (answer : ReadAnswer) →
      Goes shard a d (Answered read.machine client (reading shard number listen (Renew number moment) (asks.RenewReader moment)) answer) →
      Goes shard a d (Tends shard number (renewed answer))
  renews number listen moment answer went =
      going_so shard a d (Read answer) (Tends shard number (renewed answer)) went (λ list start es now b x. go answer list start es now b x)
    where
      Read : ReadAnswer → List Update → Stored → List Entry → List Entry → Type 0
      Read answer list start es now =
          Answered read.machine client (reading shard number listen (Renew number moment) (asks.RenewReader moment)) answer list start es now

      go : (answer : ReadAnswer) (list : List Update) (start : Stored) (es now : List Entry) → Between shard list start es now →
          Read answer list start es now → Tends shard number (renewed answer) list start es now
      go (reads.Renewed version) list start es now b x = λ view v.
          let q = (unmoved shard client list start es now x.before x.entry x.calls b x.split x.going).quiet v.number v.state v.last in
          let l = lawful_last shard list start es now x.before x.entry b x.split in
          let there = renewed_view shard list start b.stands x.entry x.before l number number moment view
          (quiet_view shard list start client es x.before x.calls number view q v) x.effect.effect in (
            subst (λ (fs : List Entry). ViewAt shard list start fs number view) (sym x.split) there,
            λ settled. subst (λ (fs : List Entry). IsSettledIn (replay_back start fs) shard) (sym x.split)
                (step_settled shard list start b.stands x.entry x.before l (Renew number moment) x.effect.effect
                (λ from applies. ap (λ (w : ShardState). w.batches) applies.makes.effect)
                (quiet_settled shard list start client es x.before x.calls q settled)),
          )
      go (reads.Expired version) list start es now b x =
          stands_still shard client a d number listen (Renew number moment) list start es now x.before x.entry x.calls version b x.going x.own
          x.split x.effect.effect x.legal.0
      go (reads.Rows rows) list start es now b x = absurd x.legal.0
      go (reads.Early since) list start es now b x = absurd x.legal.0
      go (reads.Late upper) list start es now b x = absurd x.legal.0
      go (reads.Step from to rows) list start es now b x = absurd x.legal.0
      go (reads.Quiet upper) list start es now b x = absurd x.legal.0
      go reads.Ended list start es now b x = absurd x.legal.0
      go (reads.Advanced version) list start es now b x = absurd x.legal.0
      go (reads.Back since) list start es now b x = absurd x.legal.0
      go (reads.Opened member version since) list start es now b x = absurd x.legal.0
      go (reads.MembersFull version) list start es now b x = absurd x.legal.0
      go (reads.Closed version) list start es now b x = absurd x.legal.0

  -- ---- a collection

  -- what a collection of the shard keeps
  abbrev pub collected : Option Asked → CollectKept
  collected asked = record { asked = asked; shard = shard }

  pub collects : (reader : ℕ) (asked : Option Asked) (answer : CollectAnswer) →
      Goes shard a d (Answered collecting client (collected asked) answer) → Goes shard a d (Tends shard reader (Ok tt))
  collects reader asked answer went =
      going_so shard a d (Answered collecting client (collected asked) answer) (Tends shard reader (Ok tt)) went
      (λ list start es now b x view v.
      let q = all_quiet shard client list start es now x.before x.entry x.calls reader view b x.going x.own x.split x.effect.none v in (
        quiet_view shard list start client es now (x.calls + 1) reader view q v,
        quiet_settled shard list start client es now (x.calls + 1) q,
      ))

  -- what is accepted stays, whether a reader stands or not
  pub collects_closed : (asked : Option Asked) (answer : CollectAnswer) →
      Goes shard a d (Answered collecting client (collected asked) answer) → Goes shard a d (Closed shard (Ok tt))
  collects_closed asked answer went =
      going_so shard a d (Answered collecting client (collected asked) answer) (Closed shard (Ok tt)) went
      (λ list start es now b x. leave_closes shard client list start es now x.before x.entry x.calls b x.going x.split 0 (inr x.effect.none))

module _ (place : Place) where
  -- ---- as the session's code makes them

  -- a renewal's result
  pub renew_told : (a d : Option History) (old begun : Reader) (listen : Option (Option ℕ)) (asked : Asked) (answer : ReadAnswer)
      (result : Result Unit SessionFault) → (b : Begun place old begun listen asked) → result ≡ renewed answer →
      Goes place.shard a d (Tends place.shard b.number (renewed answer)) → Goes place.shard a d (Tends place.shard (number_of old) result)
  renew_told a d old begun listen asked answer result b is went =
      let number : b.number ≡ number_of old = ap (λ (m : Option ℕ). unwrap_or m 0) (sym b.had) in
      subst (λ (r : Result Unit SessionFault). Goes place.shard a d (Tends place.shard (number_of old) r)) (sym is)
      (subst (λ (n : ℕ). Goes place.shard a d (Tends place.shard n (renewed answer))) number went)

  pub member_renewed : (old begun new : Reader) (listen : Option (Option ℕ)) (asked : Asked) (answer : ReadAnswer) (done : Unit) →
      Begun place old begun listen asked → read.Ended (read.kept begun) answer new → renewed answer ≡ Ok done → new.member ≡ old.member
  member_renewed old begun new listen asked answer done b over is =
      over.member ∙ renewed_keeps begun.member answer done is ∙ ap (λ (k : read.Kept). k.member) b.kept ∙ sym b.had

  -- a session whose reader's lease was renewed
  pub ready_renewed : (now next : ℕ) (a d : Option History) (writer : Writer) (old begun new : Reader) (listen : Option (Option ℕ))
      (asked : Asked) (answer : ReadAnswer) (done : Unit) →
      Ready a (record { place = place; writer = writer; reader = old; now = now; next = next }) → Begun place old begun listen asked →
      GrowsBy place.reader a d → read.Ended (read.kept begun) answer new → readers.IsSound new →
      reader_following.FollowsWhere place.reader d new → renewed answer ≡ Ok done →
      Ready d (record { place = place; writer = writer; reader = new; now = now; next = next })
  ready_renewed now next a d writer old begun new listen asked answer done ready b by over sound follows is = record {
    apart = ready.apart;
    above_writer = ready.above_writer;
    above_reader = ready.above_reader;
    writer = writer_waits place ready.apart a d writer by ready.writer;
    reader = record {
      shard = over.shard ∙ ap (λ (k : read.Kept). k.shard) b.kept;
      sound = sound;
      follows = follows;
      free = over.asked;
      member = subst (λ (m : Option ℕ). IsSome m) (sym (member_renewed old begun new listen asked answer done b over is))
          ready.reader.member;
    };
  }

-- a session that has given a number to a client
pub ready_numbered : (front : Option History) (s t : Session) → t ≡ record s { next = t.next } → s.next ≤ t.next → Ready front s → Ready front t
ready_numbered front s t same rises ready =
    subst (λ (u : Session). Ready front u) (sym same) (record {
      apart = ready.apart;
      above_writer = omega (arith, ready.above_writer, rises);
      above_reader = omega (arith, ready.above_reader, rises);
      writer = ready.writer;
      reader = ready.reader;
    })

-- what was said of a session that has gone on is said of the one before
pub tends_as : (p q : Place) (a d : Option History) (r s : Reader) (result : Result Unit SessionFault) → q ≡ p → s.member ≡ r.member →
    Goes q.shard a d (Tends q.shard (number_of s) result) → Goes p.shard a d (Tends p.shard (number_of r) result)
tends_as p q a d r s result same member went =
    subst (λ (n : ℕ). Goes p.shard a d (Tends p.shard n result)) (ap (λ (m : Option ℕ). unwrap_or m 0) member)
    (subst (λ (z : Place). Goes z.shard a d (Tends z.shard (number_of s) result)) same went)

module _ (place : Place) where
  -- ---- as an answer to the line

  -- all of it is done, and the batches are settled
  pub compact_answered : (a d : Option History) (reader : ℕ) → Goes place.shard a d (TendsTo place.shard reader (GetsSettled place.shard) (Ok tt)) →
      Goes place.shard a d (AnswersLine place.shard reader Compact (Ok replies.Accepted))
  compact_answered a d reader went =
      going_so place.shard a d (TendsTo place.shard reader (GetsSettled place.shard) (Ok tt))
      (AnswersLine place.shard reader Compact (Ok replies.Accepted)) went
      (λ list start es now b f view v. let (at, settled) = f view v in (refl, at, settled))

  -- a fault is none
  pub compact_failed : (a d : Option History) (reader : ℕ) (how : Stored → Stored → Type 0) (fault : SessionFault) →
      Goes place.shard a d (TendsTo place.shard reader how (Err fault)) →
      Goes place.shard a d (AnswersLine place.shard reader Compact (Err fault))
  compact_failed a d reader how faults.Damaged went = went
  compact_failed a d reader how faults.Memory went = went
  compact_failed a d reader how faults.Store went = went
  compact_failed a d reader how faults.MembersFull went = went
  compact_failed a d reader how faults.Spent went = went
