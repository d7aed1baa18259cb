use Rattle.std.proofs.Common.{ℕ, refl, sym, subst, ◌∙◌}
use Rattle.reclock_run.specs.Working.{IsReady}
use Rattle.reclock_run.proofs.Adding.{goes_on, worked_none}
use Rattle.reclock_run.proofs.working.mint_all.Goals as goal

pub loop-saw-init : goal.loop-saw-init
loop-saw-init g c = record {
  worked = worked_none (g.P.Port.client c.args.port.now) (g.P.Port.front c.args.port.now) c.args.operator.now;
  ready = c.requires.ready;
  client = refl;
  kept = refl;
}

pub returns-in_err-mint_own-clause-worked : goal.returns-in_err-mint_own-clause-worked
returns-in_err-mint_own-clause-worked g c =
    goes_on (g.P.Port.client c.args.port.now) (g.P.Port.client c.loop-saw.port) (g.P.Port.front c.args.port.now)
    (g.P.Port.front c.loop-saw.port) (g.P.Port.front c.mint_own.new.port) c.args.operator.now c.loop-saw.operator c.mint_own.new.operator
    c.loop-saw.invariant.client c.loop-saw.invariant.worked c.mint_own.ensures.worked

pub loop-saw-preserved : goal.loop-saw-preserved
loop-saw-preserved g c = record {
  worked = goes_on (g.P.Port.client c.args.port.now) (g.P.Port.client c.loop-saw.port) (g.P.Port.front c.args.port.now)
      (g.P.Port.front c.loop-saw.port) (g.P.Port.front c.mint_own.new.port) c.args.operator.now c.loop-saw.operator c.mint_own.new.operator
      c.loop-saw.invariant.client c.loop-saw.invariant.worked c.mint_own.ensures.worked;
  ready = subst (λ (n : ℕ). IsReady n (g.P.Port.front c.mint_own.new.port) c.mint_own.new.operator) (sym c.mint_own.ensures.client)
      c.in_ok-mint_own.ensures.ready;
  client = c.mint_own.ensures.client ∙ c.loop-saw.invariant.client;
  kept = c.mint_own.ensures.kept ∙ c.loop-saw.invariant.kept;
}
