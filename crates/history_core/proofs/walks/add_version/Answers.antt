use Rattle.std.proofs.Common.{◌≡◌, ◌++◌, Option, sym, subst}
use Rattle.std.specs.Prelude.{OnOk}
use Rattle.store_core.specs.Contents.{blobs_of}
use Rattle.state_core.specs.States.{ShardState}
use Rattle.state_core.specs.declared.transitions.Transition.{Transition}
use Rattle.history_core.specs.Stands.{appended_by}
use Rattle.history_core.specs.Walks.{with_blobs}
use Rattle.history_core.proofs.walks.add_version.Goals as goal

pub returns-in-Some : goal.returns-in-Some
returns-in-Some c =
    subst (λ (v : Option (ShardState × Transition)). OnOk c.add_step.result (c.add_step.new.rows ≡ c.args.rows.now ++ appended_by (with_blobs (blobs_of c.args.blobs.now)) v)) (sym c.in-Some.is)
    (c.add_step.ensures c.in-Some.pair.0)
