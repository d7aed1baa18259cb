-- What holds of a session's commands, whichever they are; its clients join. Entries go newest first.
use Rattle.std.proofs.Common.{◌≡◌, ◌≢◌, ℕ, ◌+◌, Option, Some, None, Result, Ok, Err, List, [], ◌∷◌, length, refl, sym, ap, subst, ◌∙◌}
use Rattle.std.specs.Prelude.{unwrap_or}
use Rattle.std.specs.List.{AllByRecursion}
use Rattle.update_core.specs.declared.updates.Update.{Update}
use Rattle.store_core.specs.declared.entries.Entry.{Entry}
use Rattle.store_core.specs.Stores.{Stored}
use Rattle.store_core.specs.Histories.{History, reply}
use Rattle.store_core.specs.Ports.{GrowsByOthers, OfOthers, with_entries}
use Rattle.store_core.specs.Newest.{replay_back}
use Rattle.state_core.specs.States.{ShardState}
use Rattle.history_core.specs.declared.write_answers.WriteAnswer.{WriteAnswer}
use Rattle.history_core.specs.declared.write_answers.WriteAnswer.TheVariants as writes
use Rattle.history_core.specs.declared.read_answers.ReadAnswer.{ReadAnswer}
use Rattle.history_core.specs.declared.read_answers.ReadAnswer.TheVariants as reads
use Rattle.history_core.specs.Legal.{Full}
use Rattle.history_core.specs.Placing.{places}
use Rattle.load_core.specs.Effects.{CommitsNone, IsShown}
use Rattle.machine_core.specs.Machines.{Keeps, Words}
use Rattle.machine_core.specs.Polling.{FollowsWhere}
use Rattle.machine_core.proofs.Polls.{others_where}
use Rattle.write_client.specs.Machining as write
use Rattle.write_client.specs.Writing as writers
use Rattle.read_client.specs.declared.readers.Reader.{Reader}
use Rattle.read_client.specs.Machining as read
use Rattle.read_client.specs.Reading as readers
use Rattle.feed_text.specs.declared.replies.RunReply.{RunReply}
use Rattle.driving.specs.Drives.{Answered, Going, Scanned}
use Rattle.driving.specs.Goings.{Goes, GrowsBy}
use Rattle.driving.proofs.Driving.{scanned_last, shown_scan}
use Rattle.driving.proofs.GoingLaws.{Between, going_so}
use Rattle.plain_run.specs.declared.session_faults.SessionFault.{SessionFault}
use Rattle.plain_run.specs.Answering.{OpensReader, OpensWriter, read_reply, reader_let_in, write_reply, writer_let_in}
use Rattle.plain_run.specs.Drives.{Failed, ScannedFull}
use Rattle.plain_run.specs.PlainRuns.{View}
use Rattle.plain_run.specs.Sessions.{QuietSince, StartsAt, ViewAt}
use Rattle.plain_run.proofs.DriveLaws.{lawful_last, unmoved}
use Rattle.plain_run.proofs.Quietly.{quiet_none}
use Rattle.plain_run.proofs.Views.{reader_joins, writer_joins}
use Rattle.store_core.specs.declared.shards.ShardId.{ShardId}

-- ---- while the other client works

-- entries of one client are none of the other's
others_alone : (client other : ℕ) → client ≢ other → (es : List Entry) → AllByRecursion (λ e. e.client ≡ other) es → OfOthers client es
others_alone client other apart [] h = tt
others_alone client other apart (e ∷ es) h = (λ is. apart (sym is ∙ h.0), others_alone client other apart es h.1)

grows_for : (client other : ℕ) → client ≢ other → (a b : Option History) → GrowsBy other a b → GrowsByOthers client a b
grows_for client other apart None b grows = grows
grows_for client other apart (Some h) b (k, k_is, more, start_is, trail_is, own) =
    let same : k ≡ with_entries h more = λ i. record { start = start_is i; trail = trail_is i } in
    (more, others_alone client other apart more own, k_is ∙ ap (λ (q : History). Some q) same)

-- what is known of a machine goes on where entries of another client alone have come
pub waits : {M A : Type 0} → (W : Words M A) → Keeps W → (client other : ℕ) → client ≢ other → (m : M) (a b : Option History) →
    GrowsBy other a b →
    FollowsWhere W client a m → FollowsWhere W client b m
waits {M = M} {A = A} W keeps client other apart m a b grows follows =
    others_where M A W keeps client a b m follows (grows_for client other apart a b grows)

module _ (shard : ShardId) where
  -- ---- entries

  -- a command whose entries all were quiet
  pub all_quiet : (client : ℕ) (list : List Update) (start : Stored) (es now before : List Entry) (e : Entry) (calls reader : ℕ) (view : View) →
      Between shard list start es now → Going shard client start es before calls → e.client ≡ client → now ≡ e ∷ before →
      CommitsNone (reply (replay_back start before) e) → ViewAt shard list start es reader view →
      QuietSince shard client start es now (calls + 1)
  all_quiet client list start es now before e calls reader view b g own split none v =
      subst (λ (fs : List Entry). QuietSince shard client start es fs (calls + 1)) (sym split)
      (quiet_none shard start client es before calls e
      ((unmoved shard client list start es now before e calls b split g).quiet v.number v.state v.last) own none)

  -- what holds of an answered Scan may be said otherwise
  scanned_so : (P Q : ℕ → ShardState → Type 0) (start : Stored) (es now : List Entry) → ((n : ℕ) (s : ShardState) → P n s → Q n s) →
      Scanned shard P start es now → Scanned shard Q start es now
  scanned_so P Q start es now go s = record {
    place = s.place;
    more = s.more;
    split = s.split;
    since = s.since;
    answered = s.answered;
    last = (s.last.0, s.last.1, s.last.2, go s.last.0 s.last.1 s.last.3);
  }

  pub full : (client : ℕ) (start : Stored) (es now before : List Entry) (e : Entry) (calls version : ℕ) →
      Going shard client start es before calls →
      e.client ≡ client → now ≡ e ∷ before → IsShown shard e.call (reply (replay_back start before) e) →
      Full start shard version (places client (calls + 1) now) → ScannedFull shard start es now
  full client start es now before e calls version g own split shown h =
      subst (λ (fs : List Entry). ScannedFull shard start es fs) (sym split)
      (scanned_so (λ n s. (n ≡ version) × (length s.members ≡ 256)) (λ n s. length s.members ≡ 256) start es (e ∷ before) (λ n s p. p.1)
      (scanned_last shard client start (λ n s. (n ≡ version) × (length s.members ≡ 256)) es before e calls g own
      (shown_scan shard (replay_back start before) e before shown)
      (subst (λ (fs : List Entry). Full start shard version (places client (calls + 1) fs)) split h)))

  -- ---- opening

  pub opens_writer : (client : ℕ) (a d : Option History) (answer : WriteAnswer) →
      Goes shard a d (Answered write.machine client (write.kept (writers.opened shard)) answer) →
      Goes shard a d (OpensWriter shard {A = Unit {0}} (writer_let_in answer))
  opens_writer client a d answer went =
      going_so shard a d (Wrote answer) (OpensWriter shard {A = Unit {0}} (writer_let_in answer)) went
      (λ list start es now b x. go answer list start es now b x)
    where
      Wrote : WriteAnswer → List Update → Stored → List Entry → List Entry → Type 0
      Wrote answer list start es now = Answered write.machine client (write.kept (writers.opened shard)) answer list start es now

      go : (answer : WriteAnswer) (list : List Update) (start : Stored) (es now : List Entry) → Between shard list start es now →
          Wrote answer list start es now → OpensWriter shard {A = Unit {0}} (writer_let_in answer) list start es now
      go (writes.Opened member version) list start es now b x =
          λ view at. subst (λ (fs : List Entry). StartsAt shard list start fs view) (sym x.split)
          (writer_joins shard list start b.stands x.entry x.before (lawful_last shard list start es now x.before x.entry b x.split) view
          ((unmoved shard client list start es now x.before x.entry x.calls b x.split x.going).starts view at) x.effect.effect.0)
      go (writes.MembersFull version) list start es now b x = full client start es now x.before x.entry x.calls version x.going x.own x.split
          (x.effect.shown tt) x.legal
      go writes.Ok list start es now b x = absurd x.legal
      go (writes.Mismatch current) list start es now b x = absurd x.legal
      go (writes.Heavy weight) list start es now b x = absurd x.legal
      go (writes.Closed version) list start es now b x = absurd x.legal

  -- the reader's command has let in a reader
  abbrev pub JoinsReader : Result Unit SessionFault → Reader → List Update → Stored → List Entry → List Entry → Type 0
  JoinsReader (Ok done) r list start es now = OpensReader shard (Ok r) list start es now
  JoinsReader (Err fault) r list start es now = Failed shard fault start es now

  pub opens_reader : (client : ℕ) (a d : Option History) (moment lease : ℕ) (r : Reader) (answer : ReadAnswer) →
      r.member ≡ readers.member_after None answer →
      Goes shard a d (Answered read.machine client (read.kept (readers.opened shard moment lease)) answer) →
      Goes shard a d (JoinsReader (reader_let_in answer) r)
  opens_reader client a d moment lease r answer member went =
      going_so shard a d (Read answer) (JoinsReader (reader_let_in answer) r) went
      (λ list start es now b x. go answer member list start es now b x)
    where
      Read : ReadAnswer → List Update → Stored → List Entry → List Entry → Type 0
      Read answer list start es now = Answered read.machine client (read.kept (readers.opened shard moment lease)) answer list start es now

      go : (answer : ReadAnswer) → r.member ≡ readers.member_after None answer → (list : List Update) (start : Stored) (es now : List Entry) →
          Between shard list start es now → Read answer list start es now → JoinsReader (reader_let_in answer) r list start es now
      go (reads.Opened member version since) is list start es now b x =
          λ view at. subst (λ (m : Option ℕ). ViewAt shard list start now (unwrap_or m 0) view) (sym is)
          (subst (λ (fs : List Entry). ViewAt shard list start fs member view) (sym x.split)
          (reader_joins shard list start b.stands x.entry x.before
          (lawful_last shard list start es now x.before x.entry b x.split) view moment lease member
          ((unmoved shard client list start es now x.before x.entry x.calls b x.split x.going).starts view at) x.effect.effect.0 x.effect.effect.1))
      go (reads.MembersFull version) is list start es now b x = full client start es now x.before x.entry x.calls version x.going x.own x.split
          (x.effect.shown tt) x.legal.0
      go (reads.Rows rows) is list start es now b x = absurd x.legal.0
      go (reads.Early since) is list start es now b x = absurd x.legal.0
      go (reads.Late upper) is list start es now b x = absurd x.legal.0
      go (reads.Step from to rows) is list start es now b x = absurd x.legal.0
      go (reads.Quiet upper) is list start es now b x = absurd x.legal.0
      go reads.Ended is list start es now b x = absurd x.legal.0
      go (reads.Advanced version) is list start es now b x = absurd x.legal.0
      go (reads.Back since) is list start es now b x = absurd x.legal.0
      go (reads.Renewed version) is list start es now b x = absurd x.legal.0
      go (reads.Closed version) is list start es now b x = absurd x.legal.0
      go (reads.Expired version) is list start es now b x = absurd x.legal.0

-- ---- whose the machines are

-- an answer that is a reply leaves the member
pub read_keeps : (member : Option ℕ) (answer : ReadAnswer) (r : RunReply) → read_reply answer ≡ Ok r →
    readers.member_after member answer ≡ member
read_keeps member (reads.Rows rows) r is = refl
read_keeps member (reads.Early since) r is = refl
read_keeps member (reads.Late upper) r is = refl
read_keeps member (reads.Step from to rows) r is = refl
read_keeps member (reads.Quiet upper) r is = refl
read_keeps member reads.Ended r is = refl
read_keeps member (reads.Advanced version) r is = refl
read_keeps member (reads.Back since) r is = refl
read_keeps member (reads.Opened joined version since) r is = cc
read_keeps member (reads.MembersFull version) r is = cc
read_keeps member (reads.Renewed version) r is = cc
read_keeps member (reads.Closed version) r is = cc
read_keeps member (reads.Expired version) r is = cc

pub write_keeps : (member : Option ℕ) (answer : WriteAnswer) (r : RunReply) → write_reply answer ≡ Ok r →
    writers.member_after member answer ≡ member
write_keeps member writes.Ok r is = refl
write_keeps member (writes.Mismatch current) r is = refl
write_keeps member (writes.Heavy weight) r is = refl
write_keeps member (writes.Opened joined version) r is = cc
write_keeps member (writes.MembersFull version) r is = cc
write_keeps member (writes.Closed version) r is = cc
