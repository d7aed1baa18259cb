use Rattle.reclock_run.proofs.Adding.{worked_none}
use Rattle.reclock_run.proofs.working.go.Goals as goal

pub returns-in-Err-clause-worked : goal.returns-in-Err-clause-worked
returns-in-Err-clause-worked g c =
    worked_none (g.P.Port.client c.args.port.now) (g.P.Port.front c.args.port.now) c.args.operator.now
