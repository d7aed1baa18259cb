-- In a lawful history the versions from the floor on are live, and the parts that they name are there.
use Rattle.std.proofs.Common.{◌≡◌, ℕ, List, [], ◌∷◌, inl, inr, Some}
use Rattle.store_core.specs.declared.shards.ShardId.{ShardId}
use Rattle.store_core.specs.declared.entries.Entry.{Entry}
use Rattle.store_core.specs.Stores.{Log, Stored}
use Rattle.store_core.specs.Newest.{replay_back, mine_back}
use Rattle.state_core.specs.States.{ShardState}
use Rattle.history_core.specs.Histories.{version_at, ever}
use Rattle.history_core.specs.Discipline.{LawfulBack}
use Rattle.history_core.specs.Stands.{StateIn, appended}
use Rattle.history_core.proofs.Entries.{lawful_older}
use Rattle.history_core.proofs.StateFacts.{state_none}
use Rattle.history_core.proofs.Standing.{Kept}
use Rattle.history_core.proofs.Blobs.{Begins, stands_at}
use Rattle.history_core.proofs.TrackPresence.{PresentOn, present_step}
use Rattle.history_core.proofs.LogTracks.{track_of, Lives, ever_track, sound_at, moved_by}

-- from the floor on the versions of a log are live in the store, and their keys are there
abbrev pub Present : ShardId → Log → Stored → Type 0
Present shard all store = PresentOn (track_of shard all) (λ n. (b : List ℕ) × (version_at (store.logs shard) n ≡ Some b)) store

module _ (start : Stored) (shard : ShardId) (start_member : ℕ) (begin : Begins start shard start_member) where
  -- where there is a state there is a chain
  pub kept_at : (es : List Entry) → LawfulBack start es → (n : ℕ) (s : ShardState) → StateIn shard (ever start shard es) n s →
      Kept shard (ever start shard es) start_member
  kept_at es l n s h = elim (stands_at start shard start_member begin es l) [ inl p ↦ absurd (state_none shard (ever start shard es) n s p.0 h) | inr k ↦ k ]

  -- in each lawful history the versions from the floor on are live and their keys are there
  pub presence : Present shard (start.logs shard) start → (es : List Entry) → LawfulBack start es →
      Present shard (ever start shard es) (replay_back start es)
  presence p [] l = p
  presence p (e ∷ es) l =
      let before = lawful_older start e es l in
      present_step shard (ever_track start shard es) (ever_track start shard (e ∷ es)) (replay_back start es) (replay_back start (e ∷ es)) (mine_back start es e.client)
      (Lives start shard es) (Lives start shard (e ∷ es)) (appended (replay_back start es) shard e e.call)
      (sound_at start shard start_member begin es before) (moved_by start shard start_member begin e es l) (presence p es before)
