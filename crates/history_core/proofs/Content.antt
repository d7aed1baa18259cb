-- In a lawful history the batches of the versions from the floor on hold the accepted list.
use Rattle.std.proofs.Common.{◌≡◌, ℕ, ◌+◌, List, [], ◌∷◌, refl, arith, sym, ap, ◌∙◌, length}
use Rattle.update_core.specs.declared.updates.Update.{Update}
use Rattle.store_core.specs.declared.shards.ShardId.{ShardId}
use Rattle.store_core.specs.declared.entries.Entry.{Entry}
use Rattle.store_core.specs.Stores.{Log, Stored, no_log, committed}
use Rattle.store_core.specs.Newest.{replay_back, mine_back}
use Rattle.state_core.proofs.ListLemmas.{append-nil}
use Rattle.history_core.specs.Histories.{ever}
use Rattle.history_core.specs.Discipline.{LawfulBack}
use Rattle.history_core.specs.Stands.{end_of, appended, accepted}
use Rattle.history_core.proofs.Logs.{end_of-committed}
use Rattle.history_core.proofs.Entries.{lawful_older}
use Rattle.history_core.proofs.Owners.{log_is}
use Rattle.history_core.proofs.Turns.{Turn, still, shorter, begins, grows, turn}
use Rattle.history_core.proofs.Blobs.{Begins}
use Rattle.history_core.proofs.Presence.{Present, presence}
use Rattle.history_core.proofs.TrackContent.{ContainedOn, contained_step}
use Rattle.history_core.proofs.LogTracks.{track_of, Lives, ever_track, sound_at, moved_by}
pub use Rattle.history_core.proofs.Appended.{appended_idle, appended_none, appended_grown}

-- the batches of a log's versions from the floor on hold the list
abbrev pub Contained : ShardId → Log → Stored → List Update → Type 0
Contained shard all store list = ContainedOn (track_of shard all) store list

nothing : (vs : List (List ℕ)) → length vs ≡ 0 → vs ≡ []
nothing [] h = refl
nothing (v ∷ vs) h = absurd (omega arith)

-- a log whose next number is 0 is the empty one
log_empty : (log : Log) → end_of log ≡ 0 → log ≡ no_log
log_empty log h = log_is log (nothing log.versions (omega arith)) (omega arith)

module _ (start : Stored) (shard : ShardId) (start_member : ℕ) (begin : Begins start shard start_member) (list : List Update)
    (begin_present : Present shard (start.logs shard) start) (unstarted : start.logs shard ≡ no_log → list ≡ []) where
  -- while there is no version nothing is accepted
  pub empty_list : (es : List Entry) → LawfulBack start es → ever start shard es ≡ no_log → accepted shard list start es ≡ []
  empty_list [] l h = unstarted h
  empty_list (e ∷ es) l h = go (turn start shard begin.first e es l) (λ g. empty_list es (lawful_older start e es l) g)
    where
      grown_full : (log : Log) (bytes : List ℕ) → committed log bytes ≡ no_log → ⊥
      grown_full log bytes q =
          let a : end_of (committed log bytes) ≡ 0 = ap end_of q in
          let b : end_of (committed log bytes) ≡ end_of log + 1 = end_of-committed log bytes in omega arith

      idle_list : ever start shard (e ∷ es) ≡ ever start shard es →
          (ever start shard es ≡ no_log → accepted shard list start es ≡ []) → accepted shard list start (e ∷ es) ≡ []
      idle_list q older = rw (appended_idle (replay_back start es) shard e e.call (ever start shard es) q) (append-nil (accepted shard list start es) ∙ older (sym q ∙ h))

      go : Turn start shard e es → (ever start shard es ≡ no_log → accepted shard list start es ≡ []) →
          accepted shard list start (e ∷ es) ≡ []
      go (still q r) older = idle_list q older
      go (shorter below c q r) older = idle_list q older
      go (begins expected bytes c f q r) older = absurd (grown_full (ever start shard es) bytes (sym q ∙ h))
      go (grows expected bytes c t k b q r) older = absurd (grown_full (ever start shard es) bytes (sym q ∙ h))

  -- in each lawful history the batches hold the accepted list
  pub contained : Contained shard (start.logs shard) start list → (es : List Entry) → LawfulBack start es →
      Contained shard (ever start shard es) (replay_back start es) (accepted shard list start es)
  contained p [] l = p
  contained p (e ∷ es) l =
      let before = lawful_older start e es l in
      contained_step shard (ever_track start shard es) (ever_track start shard (e ∷ es)) (replay_back start es) (replay_back start (e ∷ es)) (mine_back start es e.client)
      (Lives start shard es) (Lives start shard (e ∷ es)) (appended (replay_back start es) shard e e.call)
      (sound_at start shard start_member begin es before) (moved_by start shard start_member begin e es l) (presence start shard start_member begin begin_present es before)
      (accepted shard list start es) (λ none. empty_list es before (log_empty (ever start shard es) none)) (contained p es before)
