use Rattle.reclock_run.proofs.Adding.{goes_on}
use Rattle.reclock_run.proofs.working.open_and_mint.Goals as goal

pub returns-clause-worked : goal.returns-clause-worked
returns-clause-worked g c =
    goes_on (g.P.Port.client c.args.port.now) (g.P.Port.client c.finish.new.port) (g.P.Port.front c.args.port.now)
    (g.P.Port.front c.finish.new.port) (g.P.Port.front c.mint_all.new.port) c.args.operator.now c.finish.new.operator
    c.mint_all.new.operator c.finish.ensures.client c.finish.ensures.worked c.mint_all.ensures.worked
