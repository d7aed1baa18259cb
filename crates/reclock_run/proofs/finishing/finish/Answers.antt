use Rattle.std.proofs.Common.{ℕ, refl, sym, subst, ◌∙◌}
use Rattle.reclock_run.specs.Working.{IsReady}
use Rattle.reclock_run.proofs.Adding.{goes_on, worked_none}
use Rattle.reclock_run.proofs.finishing.finish.Goals as goal

pub loop-init : goal.loop-init
loop-init g c = record {
  worked = worked_none (g.P.Port.client c.args.port.now) (g.P.Port.front c.args.port.now) c.args.operator.now;
  ready = c.requires.ready;
  client = refl;
  kept = refl;
}

pub returns-in-Some-poll_once-clause-worked : goal.returns-in-Some-poll_once-clause-worked
returns-in-Some-poll_once-clause-worked g c =
    goes_on (g.P.Port.client c.args.port.now) (g.P.Port.client c.loop.port) (g.P.Port.front c.args.port.now) (g.P.Port.front c.loop.port)
    (g.P.Port.front c.poll_once.new.port) c.args.operator.now c.loop.operator c.poll_once.new.operator c.loop.invariant.client
    c.loop.invariant.worked c.poll_once.ensures.worked

pub loop-preserved : goal.loop-preserved
loop-preserved g c = record {
  worked = goes_on (g.P.Port.client c.args.port.now) (g.P.Port.client c.loop.port) (g.P.Port.front c.args.port.now)
      (g.P.Port.front c.loop.port) (g.P.Port.front c.poll_once.new.port) c.args.operator.now c.loop.operator c.poll_once.new.operator
      c.loop.invariant.client c.loop.invariant.worked c.poll_once.ensures.worked;
  ready = subst (λ (n : ℕ). IsReady n (g.P.Port.front c.poll_once.new.port) c.poll_once.new.operator) (sym c.poll_once.ensures.client)
      c.in_default.ensures.again;
  client = c.poll_once.ensures.client ∙ c.loop.invariant.client;
  kept = c.poll_once.ensures.kept ∙ c.loop.invariant.kept;
}
