use Rattle.std.proofs.Common.{◌∙◌}
use Rattle.reclock_run.proofs.Adding.{goes_on}
use Rattle.reclock_run.proofs.working.sync_and_publish.Goals as goal

pub returns-in_err-publish-clause-worked : goal.returns-in_err-publish-clause-worked
returns-in_err-publish-clause-worked g c =
    goes_on (g.P.Port.client c.args.port.now) (g.P.Port.client c.sync.new.port) (g.P.Port.front c.args.port.now)
    (g.P.Port.front c.sync.new.port) (g.P.Port.front c.publish.new.port) c.args.operator.now c.sync.new.operator
    c.publish.new.operator c.sync.ensures.client c.sync.ensures.worked c.publish.ensures.worked

pub returns-clause-worked : goal.returns-clause-worked
returns-clause-worked g c =
    goes_on (g.P.Port.client c.args.port.now) (g.P.Port.client c.publish.new.port) (g.P.Port.front c.args.port.now)
    (g.P.Port.front c.publish.new.port) (g.P.Port.front c.close.new.port) c.args.operator.now c.publish.new.operator
    c.close.new.operator (c.publish.ensures.client ∙ c.sync.ensures.client)
    (goes_on (g.P.Port.client c.args.port.now) (g.P.Port.client c.sync.new.port) (g.P.Port.front c.args.port.now)
    (g.P.Port.front c.sync.new.port) (g.P.Port.front c.publish.new.port) c.args.operator.now c.sync.new.operator
    c.publish.new.operator c.sync.ensures.client c.sync.ensures.worked c.publish.ensures.worked) c.close.ensures.worked
