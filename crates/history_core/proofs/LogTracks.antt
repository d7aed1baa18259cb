-- The track of a log, and what the entries of a lawful history do to it.
use Rattle.std.proofs.Common.{◌≡◌, ℕ, ◌+◌, List, ◌∷◌, inl, inr, subst, sym, ap, ◌∙◌, Some}
use Rattle.store_core.specs.declared.shards.ShardId.{ShardId}
use Rattle.store_core.specs.declared.part_keys.PartKey.{PartKey}
use Rattle.store_core.specs.declared.entries.Entry.{Entry}
use Rattle.store_core.specs.Stores.{Log, Stored, committed, truncated}
use Rattle.store_core.specs.Newest.{replay_back, mine_back}
use Rattle.history_core.specs.Histories.{version_at, ever}
use Rattle.history_core.specs.Discipline.{Allows, LawfulBack}
use Rattle.history_core.specs.Stands.{read_version, StateIn, end_of, KeysIn, appended}
use Rattle.history_core.proofs.Logs.{committed_old, committed_new, truncated_kept, end_of-committed}
use Rattle.history_core.proofs.Entries.{BlobStep, same as same_bytes, set, gone, blob_step, cas_keeps, lawful_newest, lawful_older}
use Rattle.history_core.proofs.Versions.{logs_agree, live}
use Rattle.history_core.proofs.Chains.{chain_rises}
use Rattle.history_core.proofs.StateFacts.{state_rules, state_shard, state_number, state_below, state_after, state_first, state_none, last_one}
use Rattle.history_core.proofs.Standing.{Kept, Standing}
use Rattle.history_core.proofs.Turns.{Turn, still as log_still, shorter, begins as log_begins, grows as log_grows, turn, delete_shown, truncate_covered}
use Rattle.history_core.proofs.Blobs.{Begins, stands_at, set_unnamed, allowed_set, stores, gets}
use Rattle.history_core.proofs.Appended.{appended_idle, appended_none, appended_grown}
use Rattle.history_core.proofs.Tracks.{Track, Sound, Move, still, cuts, begins, grows, KeyMove, same, unnamed, taken, Moved}

-- the versions of a log, each by its bytes
abbrev pub track_of : ShardId → Log → Track
track_of shard log = record { low = log.first; next = end_of log; item = λ n. read_version shard n (version_at log n) }

-- the versions of the shard that ever were
abbrev pub ever_track : Stored → ShardId → List Entry → Track
ever_track start shard es = track_of shard (ever start shard es)

-- version n of the shard is live after these entries
abbrev pub Lives : Stored → ShardId → List Entry → ℕ → Type 0
Lives start shard es n = (b : List ℕ) × (version_at (live start shard es) n ≡ Some b)

sound_kept : (shard : ShardId) (log : Log) (start_member : ℕ) → Kept shard log start_member → Sound shard (track_of shard log)
sound_kept shard log start_member k = record {
  rules = λ n s h. state_rules shard log n s h;
  of_shard = λ n s h. state_shard shard log n s h;
  number = λ n s h. state_number shard log n s h;
  below = λ n s h. (state_below shard log n s h).1;
  rises = λ f up m n le s s2 h g. chain_rises shard log k.chain f up m n le s s2 h g;
  keys = λ n s a h. subst (KeysIn shard log) (last_one shard log k.number n k.last s k.newest k.state a h).1 k.keys;
}

-- the track of a log that stands is sound
pub sound_of : (shard : ShardId) (log : Log) (start_member : ℕ) → Standing shard log start_member →
    Sound shard (track_of shard log)
sound_of shard log start_member (inl p) = record {
  rules = λ n s h. absurd (state_none shard log n s p.0 h);
  of_shard = λ n s h. absurd (state_none shard log n s p.0 h);
  number = λ n s h. absurd (state_none shard log n s p.0 h);
  below = λ n s h. absurd (state_none shard log n s p.0 h);
  rises = λ f up m n le s s2 h g. absurd (state_none shard log m s p.0 h);
  keys = λ n s a h. absurd (state_none shard log n s p.0 h);
}
sound_of shard log start_member (inr k) = sound_kept shard log start_member k

module _ (start : Stored) (shard : ShardId) (start_member : ℕ) (begin : Begins start shard start_member) where
  pub sound_at : (es : List Entry) → LawfulBack start es → Sound shard (ever_track start shard es)
  sound_at es l = sound_of shard (ever start shard es) start_member (stands_at start shard start_member begin es l)

  -- what an entry of a lawful history does
  pub moved_by : (e : Entry) (es : List Entry) → LawfulBack start (e ∷ es) →
      Moved shard (ever_track start shard es) (ever_track start shard (e ∷ es)) (replay_back start es) (replay_back start (e ∷ es)) (mine_back start es e.client) (Lives start shard es) (Lives start shard (e ∷ es)) (appended (replay_back start es) shard e e.call)
  moved_by e es l = record {
    move = moves (turn start shard begin.first e es l);
    bytes = λ k here. bytes_move k here (blob_step k (replay_back start es) e.call e.outcome);
    stored = λ k b here st. (stores start shard start_member begin es before e.client k b here st).2;
    got = λ k b here g. (gets start shard start_member begin es before e.client k b here g).1;
  }
    where
      before : LawfulBack start es
      before = lawful_older start e es l

      on : (log : Log) → live start shard (e ∷ es) ≡ log → (n : ℕ) (b : List ℕ) → version_at log n ≡ Some b →
          Lives start shard (e ∷ es) n
      on log r n b h = (b, subst (λ (g : Log). version_at g n ≡ Some b) (sym r) h)

      moves : Turn start shard e es → Move shard (ever_track start shard es) (ever_track start shard (e ∷ es))
          (replay_back start es) (replay_back start (e ∷ es)) (mine_back start es e.client) (Lives start shard es)
          (Lives start shard (e ∷ es)) (appended (replay_back start es) shard e e.call)
      moves (log_still q r) = still (ap (track_of shard) q) (λ n lives. on (live start shard es) r n lives.0 lives.1) (appended_idle (replay_back start es) shard e e.call (ever start shard es) q)
      moves (shorter below c q r) =
          let w = truncate_covered start shard begin.first es e.client below (subst (Allows (mine_back start es e.client)) c (lawful_newest start e es l)) in
          cuts (ap (track_of shard) q) below (record { m = w.m; s = w.s; state = w.state; low = w.low })
          (λ n le lives. on (truncated (live start shard es) below) r n lives.0 (truncated_kept (live start shard es) below n lives.0 le lives.1))
          (appended_idle (replay_back start es) shard e e.call (ever start shard es) q)
      moves (log_begins expected bytes c f q r) =
          let q2 = q ∙ ap (λ (g : Log). committed g bytes) f.empty in
          let agree = logs_agree start shard begin.first es in
          let at_zero : end_of (live start shard es) ≡ 0 = agree.next ∙ ap end_of f.empty in
          begins
          (record {
            empty = ap end_of f.empty;
            ends = ap end_of q2;
            first = λ n s h. state_first shard bytes f.first n s (subst (λ (g : Log). StateIn shard g n s) q2 h);
          })
          (on (committed (live start shard es) bytes) r 0 bytes (subst (λ (j : ℕ). version_at (committed (live start shard es) bytes) j ≡ Some bytes) at_zero (committed_new (live start shard es) bytes)))
          (appended_none (replay_back start es) shard e e.call expected bytes c f.none)
      moves (log_grows expected bytes c t k b q r) =
          let m = b.commit in
          let agree = logs_agree start shard begin.first es in
          let at_end : end_of (live start shard es) ≡ m.n + 1 = agree.next ∙ sym m.last in
          grows
          (record {
            n = m.n;
            from = m.from;
            to = m.to;
            step = m.step;
            last = m.last;
            from_is = m.from_is;
            applies = m.applies;
            ends = ap end_of q ∙ end_of-committed (ever start shard es) bytes;
            after = λ j s h. state_after shard (ever start shard es) bytes m j s (subst (λ (g : Log). StateIn shard g j s) q h);
          })
          b.holds
          (λ key. cas_keeps e.call shard expected bytes c (replay_back start es) e.outcome key)
          (λ n lives. on (committed (live start shard es) bytes) r n lives.0 (committed_old (live start shard es) bytes n lives.0 lives.1))
          (on (committed (live start shard es) bytes) r (m.n + 1) bytes (subst (λ (j : ℕ). version_at (committed (live start shard es) bytes) j ≡ Some bytes) at_end (committed_new (live start shard es) bytes)))
          (appended_grown (replay_back start es) shard e e.call expected m.n bytes m.to m.step c b.number t k m.written)

      bytes_move : (k : PartKey) → k.shard ≡ shard → BlobStep k (replay_back start es) e.call e.outcome →
          KeyMove (ever_track start shard es) (replay_back start es) (replay_back start (e ∷ es)) k
      bytes_move k here (same_bytes q) = same q
      bytes_move k here (set bytes c q) =
          unnamed (λ n s h. set_unnamed start shard start_member begin es before e.client k bytes here (allowed_set start shard start_member begin e es k bytes l c) n s h)
      bytes_move k here (gone c q) =
          let w = delete_shown start shard begin.first es e.client k here (subst (Allows (mine_back start es e.client)) c (lawful_newest start e es l)) in
          taken w.n w.taken (record { m = w.m; s = w.s; state = w.state; low = w.low })
