-- What a look at a shard comes to. Entries go newest first.
use Rattle.std.proofs.Common.{◌≡◌, ◌⊎◌, ℕ, suc, ◌+◌, Option, Some, Ok, List, [], ◌∷◌, arith, inl, inr, sym, ap, subst, ◌∙◌}
use Rattle.update_core.specs.declared.updates.Update.{Update}
use Rattle.update_core.specs.Collections.{Collection}
use Rattle.store_core.specs.declared.shards.ShardId.{ShardId}
use Rattle.store_core.specs.declared.entries.Entry.{Entry}
use Rattle.store_core.specs.Stores.{Stored}
use Rattle.store_core.specs.Histories.{History, reply}
use Rattle.store_core.specs.Newest.{replay_back}
use Rattle.state_core.specs.declared.transitions.Transition.TheVariants.{Init}
use Rattle.state_core.specs.States.{ShardState}
use Rattle.history_core.specs.Laws.{LastIs}
use Rattle.history_core.specs.Placing.{AtLastScan, IsAnsweredScan, Placed, placed, places}
use Rattle.history_core.specs.Stands.{end_of}
use Rattle.history_core.proofs.Gaining.{places_gained}
use Rattle.load_core.specs.Effects.{CommitsNone, CommitsStep, IsShown}
use Rattle.driving.specs.Drives.{Answered}
use Rattle.driving.specs.Goings.{Goes}
use Rattle.driving.proofs.Driving.{shown_scan}
use Rattle.driving.proofs.GoingLaws.{Between, going_so}
use Rattle.plain_run.specs.PlainRuns.{View}
use Rattle.plain_run.specs.Sessions.{StartsAt, ViewAt}
use Rattle.plain_run.proofs.DriveLaws.{lawful_last, unmoved}
use Rattle.plain_run.proofs.Quietly.{none_starts, quiet_none, quiet_view}
use Rattle.plain_run.proofs.Stepped.{step_commits}
use Rattle.plain_run.proofs.Views.{one_last}
use Rattle.ingest_run.specs.declared.extents.Extent.{Extent}
use Rattle.ingest_run.specs.Looking.{ExtentAt, Looks, Reaches, Saw, extent_of, kept_look, machine}
use Rattle.ingest_run.proofs.LookRule.{none_applies}

-- P holds of the newest entry, which is a Scan
at_newest : (shard : ShardId) (P : Placed → Type 0) (p : Placed) (ps : List Placed) → IsAnsweredScan shard p →
    AtLastScan shard P (p ∷ ps) → P p
at_newest shard P p ps scan (inl h) = h.1
at_newest shard P p ps scan (inr h) = absurd (h.0 scan)

module _ (shard : ShardId) (list : List Update) (start : Stored) (before : List Entry) (x : Extent) where
  -- a shard without a version has no last one
  none_last : (n : ℕ) (s : ShardState) → end_of ((replay_back start before).logs shard) ≡ 0 → LastIs (replay_back start before) shard n s → ⊥
  none_last n s none last = let e : n + 1 ≡ end_of ((replay_back start before).logs shard) = last.0 in omega (arith, e, none)

  -- how far its state has come, where there is a last version
  of_last : (e : Entry) (n : ℕ) (s : ShardState) → LastIs (replay_back start before) shard n s → ExtentAt start shard x (placed e before) →
      x ≡ extent_of (Some s)
  of_last e n s last (inl h) = absurd (none_last n s h.1 last)
  of_last e n s last (inr (m, t, there, is)) =
      is ∙ ap (λ (w : ShardState). extent_of (Some w)) (one_last shard (replay_back start before) m n t s there last)

  -- and how far the view has
  view_reaches : (e : Entry) (view : View) → StartsAt shard list start before view → ExtentAt start shard x (placed e before) →
      Reaches view.collection x
  view_reaches e view (inl h) (inl k) = record {
    upper = ap (λ (y : Extent). y.upper) k.0 ∙ ap (λ (v : View). v.collection.upper) (sym h.2);
    weight = ap (λ (y : Extent). y.weight) k.0 ∙ ap (λ (v : View). v.collection.weight) (sym h.2);
  }
  view_reaches e view (inl h) (inr (m, t, there, is)) =
      absurd (none_last m t (ap end_of h.0) there)
  view_reaches e view (inr (n, s, last, is)) k =
      let far = of_last e n s last k in
      record {
        upper = ap (λ (y : Extent). y.upper) far ∙ ap (λ (v : View). v.collection.upper) (sym is);
        weight = ap (λ (y : Extent). y.weight) far ∙ ap (λ (v : View). v.collection.weight) (sym is);
      }

  reader_reaches : (e : Entry) (reader : ℕ) (view : View) → ViewAt shard list start before reader view →
      ExtentAt start shard x (placed e before) → Reaches view.collection x
  reader_reaches e reader view v k =
      let far = of_last e v.number v.state v.last k in
      record {
        upper = ap (λ (y : Extent). y.upper) far ∙ ap (λ (c : Collection). c.upper) (sym v.collection);
        weight = ap (λ (y : Extent). y.weight) far ∙ ap (λ (c : Collection). c.weight) (sym v.collection);
      }

module _ (shard : ShardId) (client : ℕ) where
  -- the last call of a look that was answered commits nothing, and is a Scan
  did_none : (list : List Update) (start : Stored) (es now before : List Entry) (e : Entry) → Between shard list start es now → now ≡ e ∷ before →
      CommitsStep shard Init e.call (reply (replay_back start before) e)
      ⊎ (CommitsNone (reply (replay_back start before) e) × IsShown shard e.call (reply (replay_back start before) e)) →
      CommitsNone (reply (replay_back start before) e) × IsShown shard e.call (reply (replay_back start before) e)
  did_none list start es now before e b split (inl c) =
      let s = step_commits shard list start b.stands e before (lawful_last shard list start es now before e b split) Init c in
      absurd (none_applies s.from c.to s.applies)
  did_none list start es now before e b split (inr h) = h

  looked : (x : Extent) (list : List Update) (start : Stored) (es now : List Entry) → Between shard list start es now →
      Answered machine client (kept_look shard) x list start es now → Saw shard x list start es now
  looked x list start es now b a =
      let none = did_none list start es now a.before a.entry b a.split a.effect.did in
      let still = unmoved shard client list start es now a.before a.entry a.calls b a.split a.going in
      let legal : AtLastScan shard (ExtentAt start shard x) (places client (a.calls + 1) now) = a.legal in
      let scan = shown_scan shard (replay_back start a.before) a.entry a.before none.1 in
      let there = newest_there x start now a.before a.entry a.calls a.own a.split scan legal in
      record {
        starts = λ view at.
            let mid = still.starts view at in (
              subst (λ (fs : List Entry). StartsAt shard list start fs view) (sym a.split)
                  (none_starts shard list start a.before view a.entry mid none.0),
              view_reaches shard list start a.before x a.entry view mid there,
            );
        reads = λ reader view v.
            let q = still.quiet v.number v.state v.last in
            let mid = quiet_view shard list start client es a.before a.calls reader view q v in (
              subst (λ (fs : List Entry). ViewAt shard list start fs reader view) (sym a.split)
                  (quiet_view shard list start client es (a.entry ∷ a.before) (a.calls + 1) reader view
                  (quiet_none shard start client es a.before a.calls a.entry q a.own none.0) v),
              reader_reaches shard list start a.before x a.entry reader view mid there,
            );
      }
    where
      newest_there : (x : Extent) (start : Stored) (now before : List Entry) (e : Entry) (calls : ℕ) → e.client ≡ client → now ≡ e ∷ before →
          IsAnsweredScan shard (placed e before) → AtLastScan shard (ExtentAt start shard x) (places client (calls + 1) now) →
          ExtentAt start shard x (placed e before)
      newest_there x start now before e calls own split scan legal =
          let P : Placed → Type 0 = ExtentAt start shard x in
          let one : calls + 1 ≡ suc calls = omega arith in
          let first = subst (λ (fs : List Entry). AtLastScan shard P (places client (calls + 1) fs)) split legal in
          let second = subst (λ (n : ℕ). AtLastScan shard P (places client n (e ∷ before))) one first in
          at_newest shard P (placed e before) (places client calls before) scan
          (subst (AtLastScan shard P) (places_gained client calls e [] before own tt) second)

  pub looks : (x : Extent) (a d : Option History) → Goes shard a d (Answered machine client (kept_look shard) x) →
      Goes shard a d (Looks shard (Ok x))
  looks x a d went = going_so shard a d (Answered machine client (kept_look shard) x) (Looks shard (Ok x)) went (looked x)
