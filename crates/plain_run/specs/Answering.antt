-- What a session answers, over a store that nobody else calls. Entries go newest first.
use Rattle.std.specs.Prelude.{⊤, ◌≡◌, ◌≢◌, ℕ, ◌<◌, true, Option, None, IsSome, unwrap_or, Result, Ok, Err, List}
use Rattle.update_core.specs.declared.updates.Update.{Update}
use Rattle.store_core.specs.declared.shards.ShardId.{ShardId}
use Rattle.store_core.specs.declared.entries.Entry.{Entry}
use Rattle.store_core.specs.Stores.{Stored}
use Rattle.store_core.specs.Histories.{History}
use Rattle.store_core.specs.Newest.{replay_back}
use Rattle.history_core.specs.declared.write_answers.WriteAnswer.{WriteAnswer}
use Rattle.history_core.specs.declared.write_answers.WriteAnswer.TheVariants as writes
use Rattle.history_core.specs.declared.read_answers.ReadAnswer.{ReadAnswer}
use Rattle.history_core.specs.declared.read_answers.ReadAnswer.TheVariants as reads
use Rattle.history_core.specs.Stands.{accepted}
use Rattle.feed_text.specs.declared.replies.RunReply.{RunReply}
use Rattle.feed_text.specs.declared.replies.RunReply.TheVariants as replies
use Rattle.write_client.specs.declared.writers.Writer.{Writer}
use Rattle.write_client.specs.Following as writer_following
use Rattle.write_client.specs.Writing as writers
use Rattle.read_client.specs.declared.readers.Reader.{Reader}
use Rattle.read_client.specs.Following as reader_following
use Rattle.read_client.specs.Reading as readers
use Rattle.plain_run.specs.declared.session_faults.SessionFault.{SessionFault}
use Rattle.plain_run.specs.declared.session_faults.SessionFault.TheVariants as faults
use Rattle.plain_run.specs.declared.places.Place.{Place}
use Rattle.plain_run.specs.declared.sessions.Session.{Session}
use Rattle.feed_text.specs.declared.feed_lines.FeedLine.{FeedLine}
use Rattle.feed_text.specs.Streams.{Gains}
use Rattle.plain_run.specs.declared.run_faults.RunFault.{RunFault}
use Rattle.plain_run.specs.declared.run_faults.RunFault.TheVariants as runs
use Rattle.plain_run.specs.Drives.{Failed, ScannedFull, ScannedSpent}
use Rattle.plain_run.specs.Endings.{AnswersFeed}
use Rattle.plain_run.specs.PlainRuns.{View, plain_end, plain_run, reply_to, view_after}
use Rattle.plain_run.specs.Sessions.{StartsAt, ViewAt}
use Rattle.plain_run.specs.Settling.{IsSettledIn, SettledBy, StaysSettled, ends_compact}

-- the writer and the reader of a run are two clients, below all that its lines make
pub record AreApart (place : Place) : Type 0 where
  pub apart : place.writer ≢ place.reader
  pub writer : place.writer < place.others
  pub reader : place.reader < place.others

-- a writer that has joined, between commands
pub record WriterReady (here : ShardId) (client : ℕ) (front : Option History) (w : Writer) : Type 0 where
  pub shard : writers.shard_of w ≡ here
  pub sound : writers.IsSound w
  pub follows : writer_following.FollowsWhere client front w
  pub free : w.asked ≡ None
  pub member : IsSome w.member

-- a reader that has joined, between commands
pub record ReaderReady (here : ShardId) (client : ℕ) (front : Option History) (r : Reader) : Type 0 where
  pub shard : readers.shard_of r ≡ here
  pub sound : readers.IsSound r
  pub follows : reader_following.FollowsWhere client front r
  pub free : r.asked ≡ None
  pub member : IsSome r.member

-- a session between commands
pub record Ready (front : Option History) (s : Session) : Type 0 where
  pub apart : s.place.writer ≢ s.place.reader
  pub above_writer : s.place.writer < s.next
  pub above_reader : s.place.reader < s.next
  pub writer : WriterReady s.place.shard s.place.writer front s.writer
  pub reader : ReaderReady s.place.shard s.place.reader front s.reader

-- the number of a reader's member
abbrev pub number_of : Reader → ℕ
number_of r = unwrap_or r.member 0

-- ---- replies

-- a writer's answer to an append, as a reply
abbrev pub write_reply : WriteAnswer → Result RunReply SessionFault
write_reply writes.Ok = Ok replies.Accepted
write_reply (writes.Mismatch current) = Ok (replies.Mismatch current)
write_reply (writes.Heavy weight) = Ok (replies.Heavy weight)
write_reply _ = Err faults.Damaged

-- a reader's answer to a read or a new since, as a reply
abbrev pub read_reply : ReadAnswer → Result RunReply SessionFault
read_reply (reads.Rows rows) = Ok (replies.Rows rows)
read_reply (reads.Early since) = Ok (replies.Early since)
read_reply (reads.Late upper) = Ok (replies.Late upper)
read_reply (reads.Step from to rows) = Ok (replies.Step rows to)
read_reply (reads.Quiet upper) = Ok (replies.Quiet upper)
read_reply reads.Ended = Ok replies.Ended
read_reply (reads.Advanced version) = Ok replies.Accepted
read_reply (reads.Back since) = Ok (replies.Back since)
read_reply _ = Err faults.Damaged

-- whether a writer was let in
abbrev pub writer_let_in : WriteAnswer → Result Unit SessionFault
writer_let_in (writes.Opened member version) = Ok tt
writer_let_in (writes.MembersFull version) = Err faults.MembersFull
writer_let_in _ = Err faults.Damaged

-- whether a reader was let in
abbrev pub reader_let_in : ReadAnswer → Result Unit SessionFault
reader_let_in (reads.Opened member version since) = Ok tt
reader_let_in (reads.MembersFull version) = Err faults.MembersFull
reader_let_in _ = Err faults.Damaged

-- whether a reader's lease was renewed
abbrev pub renewed : ReadAnswer → Result Unit SessionFault
renewed (reads.Renewed version) = Ok tt
renewed _ = Err faults.Damaged

-- ---- what has become of the view

-- the writer has joined, and the view from which a run starts is as it was
abbrev pub OpensWriter : ShardId → {A : Type 0} → Result A SessionFault → List Update → Stored → List Entry → List Entry → Type 0
OpensWriter shard (Ok w) list start es now = (view : View) → StartsAt shard list start es view → StartsAt shard list start now view
OpensWriter shard (Err fault) list start es now = Failed shard fault start es now

-- the reader has joined, and the run has the view from which it starts
abbrev pub OpensReader : ShardId → Result Reader SessionFault → List Update → Stored → List Entry → List Entry → Type 0
OpensReader shard (Ok r) list start es now = (view : View) → StartsAt shard list start es view → ViewAt shard list start now (number_of r) view
OpensReader shard (Err fault) list start es now = Failed shard fault start es now

-- both have joined
abbrev pub Opens : ShardId → Result Session SessionFault → List Update → Stored → List Entry → List Entry → Type 0
Opens shard (Ok s) list start es now = (view : View) → StartsAt shard list start es view → ViewAt shard list start now (number_of s.reader) view
Opens shard (Err fault) list start es now = Failed shard fault start es now

-- where the run had a view, the reply is that of the view, and the run has the view after it
abbrev pub Replies : ShardId → ℕ → (View → RunReply) → (View → View) → Result RunReply SessionFault → List Update → Stored → List Entry → List Entry → Type 0
Replies shard reader wanted after (Ok reply) list start es now =
    (view : View) → ViewAt shard list start es reader view → (reply ≡ wanted view) × ViewAt shard list start now reader (after view)
Replies shard reader wanted after (Err faults.Damaged) list start es now = (view : View) → ViewAt shard list start es reader view → ⊥
Replies shard reader wanted after (Err fault) list start es now = Failed shard fault start es now

-- where the run had a view, settled batches stay so
abbrev pub StillSettled : ShardId → ℕ → List Update → Stored → List Entry → List Entry → Type 0
StillSettled shard reader list start es now =
    (view : View) → ViewAt shard list start es reader view → StaysSettled shard (replay_back start es) (replay_back start now)

-- the same of a line; after `compact` the batches are settled
abbrev pub AnswersLine : ShardId → ℕ → FeedLine → Result RunReply SessionFault → List Update → Stored → List Entry → List Entry → Type 0
AnswersLine shard reader line (Ok reply) list start es now =
    (view : View) → ViewAt shard list start es reader view →
    (reply ≡ reply_to view line) × ViewAt shard list start now reader (view_after view line) × SettledBy line shard (replay_back start now)
AnswersLine shard reader line (Err faults.Damaged) list start es now = (view : View) → ViewAt shard list start es reader view → ⊥
AnswersLine shard reader line (Err fault) list start es now = Failed shard fault start es now

-- where the run had a view it has it still, and this holds of the stores before and now
abbrev pub TendsTo : ShardId → ℕ → (Stored → Stored → Type 0) → Result Unit SessionFault → List Update → Stored → List Entry → List Entry → Type 0
TendsTo shard reader how (Ok done) list start es now =
    (view : View) → ViewAt shard list start es reader view →
    ViewAt shard list start now reader view × how (replay_back start es) (replay_back start now)
TendsTo shard reader how (Err faults.Damaged) list start es now = (view : View) → ViewAt shard list start es reader view → ⊥
TendsTo shard reader how (Err fault) list start es now = Failed shard fault start es now

-- the same where batches that were settled are so still
abbrev pub Tends : ShardId → ℕ → Result Unit SessionFault → List Update → Stored → List Entry → List Entry → Type 0
Tends shard reader result list start es now = TendsTo shard reader (StaysSettled shard) result list start es now

-- what is accepted stays, and so do settled batches
abbrev pub Closed : ShardId → Result Unit SessionFault → List Update → Stored → List Entry → List Entry → Type 0
Closed shard (Ok done) list start es now =
    (accepted shard list start now ≡ accepted shard list start es) × StaysSettled shard (replay_back start es) (replay_back start now)
Closed shard (Err fault) list start es now = Failed shard fault start es now

-- what has become of a run by a fault
abbrev pub FailedRun : ShardId → RunFault → Stored → List Entry → List Entry → Type 0
FailedRun shard runs.Damaged start es now = ⊥
FailedRun shard runs.MembersFull start es now = ScannedFull shard start es now
FailedRun shard runs.Spent start es now = ScannedSpent shard start es now
FailedRun shard _ start es now = ⊤

-- The replies from the run's view are written, and the run has the view after them. Where the last line is `compact` the batches are
-- settled.
abbrev pub AnswersLines : ShardId → ℕ → List FeedLine → Option (List ℕ) → Option (List ℕ) → Result Unit RunFault → List Update → Stored → List Entry → List Entry → Type 0
AnswersLines shard reader lines taken taken_now (Ok done) list start es now =
    (view : View) → ViewAt shard list start es reader view →
    Gains taken taken_now (plain_run view lines) × ViewAt shard list start now reader (plain_end view lines) ×
    (ends_compact lines ≡ true → IsSettledIn (replay_back start now) shard)
AnswersLines shard reader lines taken taken_now (Err runs.Damaged) list start es now = (view : View) → ViewAt shard list start es reader view → ⊥
AnswersLines shard reader lines taken taken_now (Err fault) list start es now = FailedRun shard fault start es now

-- a feed was answered from the view of the store
abbrev pub Executes : ShardId → List FeedLine → Option (List ℕ) → Option (List ℕ) → Result Unit RunFault → List Update → Stored → List Entry → List Entry → Type 0
Executes shard lines taken taken_now (Ok done) list start es now = AnswersFeed shard lines taken taken_now list start es now
Executes shard lines taken taken_now (Err fault) list start es now = FailedRun shard fault start es now
