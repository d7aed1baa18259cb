use Rattle.reclock_run.proofs.Adding.{worked_none}
use Rattle.reclock_run.proofs.working.mint_own.Goals as goal

pub returns-then-saw-number-clause-worked : goal.returns-then-saw-number-clause-worked
returns-then-saw-number-clause-worked g c =
    worked_none (g.P.Port.client c.args.port.now) (g.P.Port.front c.args.port.now) c.args.operator.now
