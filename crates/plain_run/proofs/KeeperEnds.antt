-- What a keeper's commands end with, which nobody else calls between. Entries go newest first.
use Rattle.std.proofs.Common.{◌≡◌, ℕ, ◌+◌, ◌≤◌, List, ◌∷◌, ◌⊎◌, inl, inr, sym, ap, subst, ◌∙◌}
use Rattle.update_core.specs.declared.updates.Update.{Update}
use Rattle.store_core.specs.declared.shards.ShardId.{ShardId}
use Rattle.store_core.specs.declared.entries.Entry.{Entry}
use Rattle.store_core.specs.Stores.{Stored}
use Rattle.store_core.specs.Histories.{reply}
use Rattle.store_core.specs.Newest.{replay_back}
use Rattle.state_core.specs.declared.kinds.Kind.TheVariants.{Keeper}
use Rattle.state_core.specs.declared.transitions.Transition.{Transition}
use Rattle.state_core.specs.declared.transitions.Transition.TheVariants.{Join, Leave, Merge}
use Rattle.state_core.specs.Lists.{Among}
use Rattle.state_core.specs.States.{ShardState}
use Rattle.state_core.proofs.ListLemmas.{among_map}
use Rattle.history_core.specs.Discipline.{LawfulBack}
use Rattle.history_core.specs.Legal.{Absent, Left}
use Rattle.history_core.specs.Placing.{CommittedAs, Commits, places}
use Rattle.history_core.specs.Upkeep.{KeeperJoined, MergedAs, NoneIsDue}
use Rattle.load_core.specs.Effects.{CommitsNone, CommitsStep}
use Rattle.driving.specs.Drives.{Going}
use Rattle.driving.proofs.GoingLaws.{Between}
use Rattle.plain_run.specs.PlainRuns.{View}
use Rattle.plain_run.specs.Sessions.{QuietSince, ViewAt}
use Rattle.plain_run.specs.Settling.{IsSettledIn, KeeperAt, StaysSettled}
use Rattle.plain_run.proofs.DriveLaws.{lawful_last, unmoved}
use Rattle.plain_run.proofs.KeeperLaws.{carried_step, committed_commits, committed_step, keeper_joined, keeper_merged, keeper_missing, keeper_present, keeper_quiet, keeper_stands, newest_among, none_is_due}
use Rattle.plain_run.proofs.Keepers.{joined_view, left_view, merged_view}
use Rattle.plain_run.proofs.Quietly.{quiet_commits, quiet_none, quiet_view}
use Rattle.plain_run.proofs.SessionLaws.{all_quiet}
use Rattle.plain_run.proofs.SettledLaws.{quiet_settled, step_settled}

module _ (shard : ShardId) (client : ℕ) (list : List Update) (start : Stored) (es now before : List Entry) (e : Entry) (calls : ℕ)
    (b : Between shard list start es now) (g : Going shard client start es before calls) (own : e.client ≡ client) (split : now ≡ e ∷ before)
    (reader : ℕ) (view : View) (v : ViewAt shard list start es reader view) where
  -- the command's last call committed a version by this step
  abbrev pub Steps : Transition → Type 0
  Steps step = CommitsStep shard step e.call (reply (replay_back start before) e)

  -- the entries before the last one were quiet
  quiet : QuietSince shard client start es before calls
  quiet = (unmoved shard client list start es now before e calls b split g).quiet v.number v.state v.last

  lawful : LawfulBack start (e ∷ before)
  lawful = lawful_last shard list start es now before e b split

  seen : ViewAt shard list start before reader view
  seen = quiet_view shard list start client es before calls reader view quiet v

  -- what is so after the last call is so now
  back : (P : List Entry → Type 0) → P (e ∷ before) → P now
  back P h = subst P (sym split) h

  -- a keeper has joined
  pub keeper_opens : (moment lease member version : ℕ) (step : Transition) (c : Steps step) → c.to.next_member ≡ member + 1 →
      KeeperJoined start shard moment lease member version (places client (calls + 1) now) →
      ViewAt shard list start now reader view × KeeperAt shard start now member 1
  keeper_opens moment lease member version step c next legal =
      let there = subst (λ (fs : List Entry). KeeperJoined start shard moment lease member version (places client (calls + 1) fs)) split legal in
      let k = newest_among shard client start es before calls e
      (λ p. (m : CommittedAs start shard (Join Keeper moment lease) version p) × (m.to.next_member ≡ member + 1)) quiet own
      (λ p h. committed_commits shard start (Join Keeper moment lease) version p h.0) there in
      let is_join = committed_step shard start step (Join Keeper moment lease) version e before c k.0 in
      let (joins, joined) = subst (λ (s : Transition). (m : Steps s) × (m.to.next_member ≡ member + 1)) is_join (c, next) in (
        back (λ fs. ViewAt shard list start fs reader view)
            (joined_view shard list start b.stands e before lawful reader moment lease view seen joins),
        back (λ fs. KeeperAt shard start fs member 1)
            (keeper_joined shard list start b.stands e before lawful moment lease member joins joined),
      )

  module _ (member least : ℕ) (k : KeeperAt shard start es member least) where
    kept : KeeperAt shard start before member least
    kept = keeper_quiet shard list start client es before calls member least quiet k

    -- a merge was made, by its last call
    pub keeper_merges : (token version : ℕ) → ((step : Transition) × Steps step) ⊎ CommitsNone (reply (replay_back start before) e) →
        Among (MergedAs start shard member token version) (places client (calls + 1) now) →
        ViewAt shard list start now reader view × KeeperAt shard start now member (least + 1)
    keeper_merges token version effect legal =
        let there = subst (λ (fs : List Entry). Among (MergedAs start shard member token version) (places client (calls + 1) fs)) split legal in
        by effect there (newest_among shard client start es before calls e (MergedAs start shard member token version) quiet own
        (λ p h. h.commits) there)
      where
        by : ((step : Transition) × Steps step) ⊎ CommitsNone (reply (replay_back start before) e) →
            Among (MergedAs start shard member token version) (places client (calls + 1) (e ∷ before)) →
            MergedAs start shard member token version (record { entry = e; before = before }) →
            ViewAt shard list start now reader view × KeeperAt shard start now member (least + 1)
        by (inl (step, c)) there m =
            let is_merge = carried_step shard e.call (reply (replay_back start before) e) step
            (Merge member token m.left m.right m.tries.merged) m.tries.expected m.tries.bytes m.tries.to c m.tries.call_is m.tries.carries in
            let merges = subst (λ (s : Transition). Steps s) is_merge c in (
              back (λ fs. ViewAt shard list start fs reader view)
                  (merged_view shard list start b.stands e before lawful reader member token m.left m.right m.tries.merged view seen merges),
              back (λ fs. KeeperAt shard start fs member (least + 1))
                  (keeper_merged shard list start b.stands e before lawful member token least m.left m.right m.tries.merged kept merges),
            )
        by (inr none) there m =
            absurd (quiet_commits shard client start es (e ∷ before) (calls + 1) (quiet_none shard start client es before calls e quiet own none)
            (among_map (MergedAs start shard member token version) (Commits start shard) (places client (calls + 1) (e ∷ before))
            (λ p h. h.commits) there))

    -- none was due
    pub keeper_rests : (version : ℕ) → CommitsNone (reply (replay_back start before) e) →
        NoneIsDue start shard member version (places client (calls + 1) now) →
        ViewAt shard list start now reader view × KeeperAt shard start now member least × IsSettledIn (replay_back start now) shard
    keeper_rests version none legal =
        let q = all_quiet shard client list start es now before e calls reader view b g own split none v in (
          quiet_view shard list start client es now (calls + 1) reader view q v,
          keeper_quiet shard list start client es now (calls + 1) member least q k,
          none_is_due shard list start client es now (calls + 1) member least q k version legal,
        )

    -- it stands
    pub keeper_stays : (version : ℕ) → CommitsNone (reply (replay_back start before) e) →
        Absent start shard member version (places client (calls + 1) now) → ⊥
    keeper_stays version none legal =
        let q = all_quiet shard client list start es now before e calls reader view b g own split none v in
        keeper_present shard list start client es now (calls + 1) member least q k version legal

    -- it has left
    pub keeper_leaves : (version : ℕ) → ((step : Transition) × Steps step) ⊎ CommitsNone (reply (replay_back start before) e) →
        Left start shard member version (places client (calls + 1) now) →
        ViewAt shard list start now reader view × StaysSettled shard (replay_back start es) (replay_back start now)
    keeper_leaves version (inl (step, c)) legal =
        let is_leave = by (subst (λ (fs : List Entry). Left start shard member version (places client (calls + 1) fs)) split legal) in
        let leaves = subst (λ (s : Transition). Steps s) is_leave c in (
          back (λ fs. ViewAt shard list start fs reader view)
              (left_view shard list start b.stands e before lawful reader member view seen
              (λ n from last. keeper_stands shard start before member least n from kept last) leaves),
          λ settled. back (λ fs. IsSettledIn (replay_back start fs) shard)
              (step_settled shard list start b.stands e before lawful (Leave member) leaves
              (λ from applies. ap (λ (w : ShardState). w.batches) applies.makes.effect)
              (quiet_settled shard list start client es before calls quiet settled)),
        )
      where
        by : Left start shard member version (places client (calls + 1) (e ∷ before)) → step ≡ Leave member
        by (inl h) =
            committed_step shard start step (Leave member) version e before c
            (newest_among shard client start es before calls e (CommittedAs start shard (Leave member) version) quiet own
            (committed_commits shard start (Leave member) version) h)
        by (inr h) = absurd (keeper_missing shard list start client es before e calls member least version k quiet own step c h)
    keeper_leaves version (inr none) legal =
        let q = all_quiet shard client list start es now before e calls reader view b g own split none v in (
          quiet_view shard list start client es now (calls + 1) reader view q v,
          quiet_settled shard list start client es now (calls + 1) q,
        )
