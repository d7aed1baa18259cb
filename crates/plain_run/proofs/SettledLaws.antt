-- What becomes of settled batches. Entries go newest first.
use Rattle.std.proofs.Common.{◌≡◌, ℕ, ◌+◌, List, ◌∷◌, ◌⊎◌, inl, inr, refl, sym, ap, subst, ◌∙◌}
use Rattle.std.specs.Prelude.{Ok}
use Rattle.update_core.specs.declared.updates.Update.{Update}
use Rattle.store_core.specs.declared.shards.ShardId.{ShardId}
use Rattle.store_core.specs.declared.entries.Entry.{Entry}
use Rattle.store_core.specs.Stores.{Stored}
use Rattle.store_core.specs.Histories.{reply}
use Rattle.store_core.specs.Newest.{replay_back}
use Rattle.spine_core.specs.declared.batches.Batch.{Batch}
use Rattle.spine_core.specs.Settled.{IsSettled, weights_of}
use Rattle.state_core.specs.declared.transitions.Transition.{Transition}
use Rattle.state_core.specs.declared.transitions.Transition.TheVariants.{Leave}
use Rattle.state_core.specs.States.{ShardState}
use Rattle.state_core.specs.Steps.{Applies}
use Rattle.history_core.specs.Discipline.{LawfulBack}
use Rattle.history_core.specs.Stands.{StandsFor, accepted}
use Rattle.load_core.specs.Effects.{CommitsNone, CommitsStep}
use Rattle.driving.specs.Drives.{Going}
use Rattle.driving.proofs.GoingLaws.{Between}
use Rattle.plain_run.specs.Answering.{Closed}
use Rattle.plain_run.specs.Sessions.{QuietSince}
use Rattle.plain_run.specs.Settling.{IsSettledIn, StaysSettled}
use Rattle.plain_run.proofs.DriveLaws.{Unmoved, lawful_last, unmoved}
use Rattle.plain_run.proofs.Quietly.{quiet_none, quiet_start, quiet_stays}
use Rattle.plain_run.proofs.Stepped.{step_commits}
use Rattle.plain_run.proofs.Views.{left_keeps, one_last}

-- they stay so while nothing is committed
pub quiet_settled : (shard : ShardId) (list : List Update) (start : Stored) (client : ℕ) (es now : List Entry) (calls : ℕ) →
    QuietSince shard client start es now calls → StaysSettled shard (replay_back start es) (replay_back start now)
quiet_settled shard list start client es now calls q (n, s, last, is) =
    (n, s, (quiet_stays shard list start client es now calls q).last n s last, is)

-- and by a version that keeps the batches
pub step_settled : (shard : ShardId) (list : List Update) (start : Stored) (st : StandsFor start shard list) (e : Entry) (es : List Entry) →
    LawfulBack start (e ∷ es) → (step : Transition) (c : CommitsStep shard step e.call (reply (replay_back start es) e)) →
    ((from : ShardState) → Applies from step c.to → c.to.batches ≡ from.batches) →
    StaysSettled shard (replay_back start es) (replay_back start (e ∷ es))
step_settled shard list start st e es l step c same (n, s, last, is) =
    let t = step_commits shard list start st e es l step c in
    let from : s ≡ t.from = one_last shard (replay_back start es) n c.number s t.from last t.last in (
      c.number + 1,
      c.to,
      t.now,
      subst (λ (bs : List Batch). IsSettled (weights_of bs)) (ap (λ (w : ShardState). w.batches) from ∙ sym (same t.from t.applies)) is,
    )

-- a member that leaves, or had gone before, leaves what is accepted and settled batches
pub leave_closes : (shard : ShardId) (client : ℕ) (list : List Update) (start : Stored) (es now before : List Entry) (e : Entry) (calls : ℕ) →
    Between shard list start es now → Going shard client start es before calls → now ≡ e ∷ before → (member : ℕ) →
    CommitsStep shard (Leave member) e.call (reply (replay_back start before) e) ⊎ CommitsNone (reply (replay_back start before) e) →
    Closed shard (Ok tt) list start es now
leave_closes shard client list start es now before e calls b g split member effect = (
  ap (accepted shard list start) split ∙ left_keeps shard list start b.stands e before lawful member effect ∙ still.accepts,
  λ settled. subst (λ (fs : List Entry). IsSettledIn (replay_back start fs) shard) (sym split)
      (last effect (quiet_settled shard list start client es before calls (still.quiet settled.0 settled.1 settled.2) settled)),
)
  where
    lawful : LawfulBack start (e ∷ before)
    lawful = lawful_last shard list start es now before e b split

    still : Unmoved shard client list start es before calls
    still = unmoved shard client list start es now before e calls b split g

    last : CommitsStep shard (Leave member) e.call (reply (replay_back start before) e) ⊎ CommitsNone (reply (replay_back start before) e) →
        StaysSettled shard (replay_back start before) (replay_back start (e ∷ before))
    last (inl c) = step_settled shard list start b.stands e before lawful (Leave member) c
        (λ from applies. ap (λ (w : ShardState). w.batches) applies.makes.effect)
    last (inr none) = quiet_settled shard list start e.client before (e ∷ before) 1
        (quiet_none shard start e.client before before 0 e (quiet_start shard e.client start before) refl none)
