-- What is accepted later lies past the upper.
use Rattle.std.proofs.Common.{◌≡◌, ℕ, ◌+◌, ◌≤◌, false, cond, List, [], ◌∷◌, ◌++◌, inl, inr, arith, subst, sym, ap, ◌∙◌, Some}
use Rattle.std.specs.List.{AllByRecursion}
use Rattle.std.proofs.lemmas.List.{append_assoc}
use Rattle.update_core.specs.declared.updates.Update.{Update}
use Rattle.update_core.specs.Frontiers.{covers}
use Rattle.update_core.specs.Updates.{OutOf}
use Rattle.store_core.specs.declared.shards.ShardId.{ShardId}
use Rattle.store_core.specs.declared.entries.Entry.{Entry}
use Rattle.store_core.specs.Stores.{Stored}
use Rattle.store_core.specs.Ports.{Answered}
use Rattle.store_core.specs.Newest.{replay_back, mine_back}
use Rattle.state_core.specs.declared.transitions.Transition.{Transition}
use Rattle.state_core.specs.States.{ShardState, IsState, floor}
use Rattle.state_core.specs.Steps.{Applies}
use Rattle.state_core.proofs.ListLemmas.{bool_cases, each_append, each_map, append-nil}
use Rattle.state_core.proofs.Batches.{upper_rises}
use Rattle.state_core.proofs.Floors.{floor_top}
use Rattle.state_core.proofs.Keys.{taken_named}
use Rattle.history_core.specs.Histories.{ever}
use Rattle.history_core.specs.Discipline.{LawfulBack}
use Rattle.history_core.specs.Stands.{StateIn, IsLast, end_of, appended_by, appended, accepted}
use Rattle.history_core.proofs.Entries.{lawful_older}
use Rattle.history_core.proofs.Turns.{version_ever_on}
use Rattle.history_core.proofs.Tracks.{Track, HasState, EndsAt, last_one, Sound, Move, still, cuts, begins, grows, Moved}
use Rattle.history_core.proofs.TrackPresence.{PresentOn, added_there}
use Rattle.history_core.proofs.TrackContent.{ContainedOn, content_made}
use Rattle.history_core.proofs.LogTracks.{ever_track, Lives, sound_at, moved_by}
use Rattle.history_core.proofs.Presence.{presence, kept_at}
use Rattle.history_core.proofs.Contents.{Content}
use Rattle.history_core.proofs.Content.{contained}
use Rattle.history_core.proofs.Bases.{Base}

-- the updates lie past the upper of a state
abbrev Past : ShardState → List Update → Type 0
Past s us = AllByRecursion (λ u. covers s.upper u.time ≡ false) us

module _ (shard : ShardId) (old new : Track) (store store2 : Stored) (own : List Answered) (was is : ℕ → Type 0) (rows : List Update) (sound : Sound shard old) (moved : Moved shard old new store store2 own was is rows)
    (present : PresentOn old was store) (list : List Update) where
  -- what an entry appends lies past the last upper before it
  past_step : ContainedOn old store list → (number : ℕ) (last : ShardState) → EndsAt old number → HasState old number last → Past last rows
  past_step older number last a h = go moved.move
    where
      none : rows ≡ [] → Past last rows
      none e = subst (Past last) (sym e) tt

      go : Move shard old new store store2 own was is rows → Past last rows
      go (still q lives e) = none e
      go (cuts q below reached lives e) = none e
      go (begins first live e) = none e
      go (grows g holds bytes lives live appended_is) =
          let (same_number, same) = last_one old g.n number g.from last g.last g.from_is a h in
          let before = older g.n g.from g.last g.from_is in
          let here = present g.n g.from g.last g.from_is in
          let keys = sound.keys g.n g.from g.last g.from_is in
          let number_from : g.from.number ≡ g.n = sound.number g.n g.from g.from_is in
          let rules : IsState g.from = sound.rules g.n g.from g.from_is in
          let top : floor g.from ≤ g.from.number = floor_top g.from.number g.from.members in
          let made : Content store list (appended_by store (Some (g.to, g.step))) g.from g.to =
          content_made store own list g.from g.to g.step rules (before.content g.n g.from (omega arith) g.from_is) before.before_upper before.light g.applies holds
          (λ k b added stored. added_there shard old new store store2 own was is rows sound moved g k b added stored)
          (λ k b takes got.
          let named = taken_named g.from g.to g.step k g.applies takes in
          let fits = keys.named g.n g.from k g.from_is named in
          let p = here.present g.n g.from k (omega arith) g.from_is named in
          elim (moved.got k b fits.of_shard got) [ inl missing ↦ absurd (let p2 = p.2 in cc) | inr there ↦ there ])
          in
          subst (Past last) (sym appended_is) (subst (λ (q : ShardState). Past q (appended_by store (Some (g.to, g.step)))) same made.late)

-- whether an upper covers a time, as a number
covering : ℕ → ShardState → ℕ
covering t s = cond (covers s.upper t) 1 0

covering_rises : (t : ℕ) (s s2 : ShardState) (x : Transition) → Applies s x s2 → covering t s ≤ covering t s2
unfolding covering
covering_rises t s s2 x a = elim (bool_cases (covers s.upper t)) [
  | inl e ↦ rw (e, upper_rises t s s2 x a e) (omega arith)
  | inr e ↦ rw e (omega arith)
]

uncovered : (s s2 : ShardState) (t : ℕ) → covering t s ≤ covering t s2 → covers s2.upper t ≡ false → covers s.upper t ≡ false
unfolding covering
uncovered s s2 t up h = elim (bool_cases (covers s.upper t)) [
  | inl e ↦ absurd (let up2 : 1 ≤ 0 = rw (e, h) at up in omega arith)
  | inr e ↦ e
]

module _ (start : Stored) (shard : ShardId) (list : List Update) (base : Base start shard list) where
  appended_past : (e : Entry) (es : List Entry) → LawfulBack start (e ∷ es) → (n : ℕ) (s : ShardState) → IsLast (ever start shard es) n → StateIn shard (ever start shard es) n s →
      Past s (appended (replay_back start es) shard e e.call)
  appended_past e es l n s last state =
      let before = lawful_older start e es l in
      past_step shard (ever_track start shard es) (ever_track start shard (e ∷ es)) (replay_back start es) (replay_back start (e ∷ es)) (mine_back start es e.client)
      (Lives start shard es) (Lives start shard (e ∷ es)) (appended (replay_back start es) shard e e.call)
      (sound_at start shard base.start_member base.begin es before) (moved_by start shard base.start_member base.begin e es l) (presence start shard base.start_member base.begin base.present es before)
      (accepted shard list start es) (contained start shard base.start_member base.begin list base.present base.unstarted base.content es before) n s last state

  state_behind : (fs es : List Entry) (n : ℕ) (s : ShardState) → StateIn shard (ever start shard es) n s → StateIn shard (ever start shard (fs ++ es)) n s
  state_behind [] es n s h = h
  state_behind (f ∷ fs) es n s h = let older = state_behind fs es n s h in (older.0, version_ever_on start shard f (fs ++ es) n s older.0 older.1)

  -- the accepted list grows by updates past the upper
  pub accepted_past : (fs es : List Entry) → LawfulBack start (fs ++ es) → (n : ℕ) (s : ShardState) → IsLast (ever start shard es) n → StateIn shard (ever start shard es) n s →
      (more : List Update) × (accepted shard list start (fs ++ es) ≡ accepted shard list start es ++ more) × OutOf s.upper more
  accepted_past [] es l n s last state = ([], sym (append-nil (accepted shard list start es)), record { all = tt })
  accepted_past (f ∷ fs) es l n s last state =
      let before = lawful_older start f (fs ++ es) l in
      let (more, is, out) = accepted_past fs es before n s last state in
      let here = state_behind fs es n s state in
      let sound = sound_at start shard base.start_member base.begin (fs ++ es) before in
      let kept = kept_at start shard base.start_member base.begin (fs ++ es) before n s here in
      let new = appended (replay_back start (fs ++ es)) shard f f.call in
      let past = appended_past f (fs ++ es) l kept.number kept.last kept.newest kept.state in
      let high = sound.below n s here in
      let end : kept.number + 1 ≡ end_of (ever start shard (fs ++ es)) = kept.newest in
      let past2 : Past s new = each_map (λ u. covers kept.last.upper u.time ≡ false) (λ u. covers s.upper u.time ≡ false) new
      (λ u. uncovered s kept.last u.time (sound.rises (covering u.time) (covering_rises u.time) n kept.number (omega arith) s kept.last here kept.state)) past in
      (more ++ new, ap (λ us. us ++ new) is ∙ append_assoc (accepted shard list start es) more new, record { all = each_append (λ u. covers s.upper u.time ≡ false) more new out.all past2 })
