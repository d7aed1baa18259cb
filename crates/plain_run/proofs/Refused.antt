-- Answers at the last Scan of a command whose entries commit nothing: those of the view at its begin. Entries go newest first.
use Rattle.std.specs.Prelude.{⊤}
use Rattle.std.proofs.Common.{◌≡◌, ℕ, Option, List, subst, sym, ap, ◌∙◌}
use Rattle.update_core.specs.declared.updates.Update.{Update}
use Rattle.update_core.specs.Updates.{weight_of}
use Rattle.update_core.specs.Collections.{Collection, AppendAnswer, append_answer, SnapshotAnswer, snapshot_answer, ListenAnswer, listen_answer}
use Rattle.store_core.specs.declared.shards.ShardId.{ShardId}
use Rattle.store_core.specs.declared.entries.Entry.{Entry}
use Rattle.store_core.specs.Stores.{Stored}
use Rattle.state_core.specs.declared.members.Member.{Member}
use Rattle.state_core.specs.States.{ShardState}
use Rattle.state_core.specs.Steps.{Stands}
use Rattle.state_core.proofs.ListLemmas.{among_map}
use Rattle.history_core.specs.Stands.{accepted}
use Rattle.history_core.specs.Laws.{LastIs}
use Rattle.history_core.specs.Legal.{collection_in, HasMember, Absent, AnswersAppend, ReadsAt, Reads, Snapshots, Listens, HasSince, AtLast}
use Rattle.history_core.specs.Placing.{Placed, places, store_at, AtLastScan}
use Rattle.plain_run.specs.PlainRuns.{View}
use Rattle.plain_run.specs.Sessions.{ViewAt, QuietSince}
use Rattle.plain_run.proofs.Quietly.{scan_place, quiet_view}
use Rattle.plain_run.proofs.Views.{ReadsFrom, one_last, view_collection, view_own}

module _ (shard : ShardId) (list : List Update) (start : Stored) (client : ℕ) (since es : List Entry) (calls reader : ℕ) (view : View)
    (q : QuietSince shard client start since es calls) (v : ViewAt shard list start since reader view) where
  -- a place before which the view is that of the command's begin
  record Viewed (P : Placed → Type 0) : Type 0 where
    pub place : Placed
    pub at : ViewAt shard list start place.before reader view
    pub holds : P place

  viewed : (P : Placed → Type 0) → AtLastScan shard P (places client calls es) → Viewed P
  viewed P h =
      let p = scan_place shard client start since es calls P q h in
      record { place = p.place; at = quiet_view shard list start client since p.place.before p.calls reader view p.before v; holds = p.holds }

  -- the collection of the last version there is the view's
  place_collection : (p : Placed) (n : ℕ) (s : ShardState) → ViewAt shard list start p.before reader view → LastIs (store_at start p) shard n s →
      collection_in (accepted shard list start p.before) s ≡ view.collection
  place_collection p n s at last = sym (view_collection shard list start p.before reader view n s at last)

  -- an append is answered as the view's collection answers it
  pub scan_append : (rows : List Update) (expected : ℕ) (answer : AppendAnswer) →
      AtLastScan shard (AnswersAppend list start shard rows expected answer) (places client calls es) →
      append_answer view.collection expected (weight_of rows) ≡ answer
  scan_append rows expected answer h =
      let w = viewed (AnswersAppend list start shard rows expected answer) h in
      let (c, (n, s, last, is), so) = w.holds in
      ap (λ (d : Collection). append_answer d expected (weight_of rows)) (sym (is ∙ place_collection w.place n s w.at last)) ∙ so

  -- what is read is what the view's collection answers
  pub scan_reads : {A : Type 0} (member : ℕ) (f : Collection → A) (answer : A) → Reads list start shard member (λ c. f c ≡ answer) (places client calls es) →
      f view.collection ≡ answer
  scan_reads member f answer h =
      let w = viewed (ReadsAt list start shard member (λ c. f c ≡ answer)) h in
      let (n, s, last, so) = w.holds in
      ap f (sym (place_collection w.place n s w.at last)) ∙ so.1

  pub scan_snapshot : (member t : ℕ) (answer : SnapshotAnswer) → Snapshots list start shard member t answer (places client calls es) →
      snapshot_answer view.collection t ≡ answer
  scan_snapshot member t answer h = scan_reads member (λ c. snapshot_answer c t) answer h

  pub scan_listen : (member : ℕ) (f : Option ℕ) (answer : ListenAnswer) → Listens list start shard member f answer (places client calls es) →
      listen_answer view.collection f ≡ answer
  scan_listen member f answer h = scan_reads member (λ c. listen_answer c f) answer h

  -- the reader's since is the view's
  pub scan_since : (own : ℕ) → HasSince start shard reader own (places client calls es) → own ≡ view.own
  scan_since own h =
      let w = viewed (AtLast start shard (λ n s. Stands reader (λ m. m.since ≡ own) s.members)) h in
      let (n, s, last, stands) = w.holds in
      let (m, number, is, so) = view_own shard list start w.place.before reader view n s (λ m. m.since ≡ own) w.at last stands in
      sym so ∙ is

  -- the reader stands
  pub scan_absent : (version : ℕ) → Absent start shard reader version (places client calls es) → ⊥
  scan_absent version h =
      let w = viewed (AtLast start shard (λ n s. (n ≡ version) × (¬ HasMember reader s))) h in
      let (n, s, last, absent) = w.holds in
      absent.1 (present reader (ReadsFrom view.own) s.members
      (subst (λ (t : ShardState). Stands reader (ReadsFrom view.own) t.members)
      (one_last shard (store_at start w.place) w.at.number n w.at.state s w.at.last last) w.at.own))
    where
      present : (k : ℕ) (P : Member → Type 0) (ms : List Member) → Stands k P ms → Stands k (λ m. ⊤) ms
      present k P ms h = among_map (λ m. (m.number ≡ k) × P m) (λ m. (m.number ≡ k) × ⊤) ms (λ m p. (p.0, tt)) h
