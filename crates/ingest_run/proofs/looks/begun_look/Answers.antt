use Rattle.std.proofs.Common.{refl, subst, sym, arith}
use Rattle.std.specs.Prelude.{IsSome}
use Rattle.load_core.specs.Fronts.{Backwards, WhereLawful}
use Rattle.machine_core.specs.Polling.{FollowsWhere}
use Rattle.try_machine.specs.declared.tryers.Tryer.{Tryer}
use Rattle.try_machine.specs.Tryers.{IsSound}
use Rattle.try_machine.proofs.Beginning.{asking_cost, asking_sound, asking_where, idle, idle_where}
use Rattle.ingest_run.specs.declared.extents.Extent.{Extent}
use Rattle.ingest_run.specs.declared.looks.Look.{Look}
use Rattle.ingest_run.specs.Looking.{looking, machine}
use Rattle.ingest_run.proofs.LookRule.{look_made}
use Rattle.ingest_run.proofs.looks.begun_look.Goals as goal

pub returns-clause-open : goal.returns-clause-open
returns-clause-open c =
    let made = look_made c.args.shard c.new-looker.result c.begin.new.self _ c.new-looker.ensures c.begin.ensures in
    subst (λ (t : Tryer Look). IsSome t.asked) (sym made) refl

pub returns-clause-sound : goal.returns-clause-sound
returns-clause-sound c =
    let made = look_made c.args.shard c.new-looker.result c.begin.new.self _ c.new-looker.ensures c.begin.ensures in
    subst (IsSound looking) (sym made) (asking_sound Look Extent looking (idle c.args.shard) _)

pub returns-clause-follows : goal.returns-clause-follows
returns-clause-follows c = λ client front.
    let made = look_made c.args.shard c.new-looker.result c.begin.new.self _ c.new-looker.ensures c.begin.ensures in
    subst (FollowsWhere machine client front) (sym made)
    (asking_where Look Extent looking (idle c.args.shard) _ client front refl (λ start es. tt)
    (idle_where Look Extent looking c.args.shard client front))

pub returns-clause-cost : goal.returns-clause-cost
returns-clause-cost c = λ client front.
    let made = look_made c.args.shard c.new-looker.result c.begin.new.self _ c.new-looker.ensures c.begin.ensures in
    subst (λ (t : Tryer Look). WhereLawful c.args.shard front (Backwards (machine.CostAt 3 client t))) (sym made)
    (asking_cost Look Extent looking (idle c.args.shard) _ 3 client front (omega arith))
