use Rattle.reclock_run.proofs.Adding.{polled_worked, unpolled_worked, worked_none}
use Rattle.reclock_run.proofs.finishing.poll_once.Goals as goal

pub returns-then-not-busy-clause-worked : goal.returns-then-not-busy-clause-worked
returns-then-not-busy-clause-worked g c =
    worked_none (g.P.Port.client c.args.port.now) (g.P.Port.front c.args.port.now) c.args.operator.now

pub returns-in_default-clause-worked : goal.returns-in_default-clause-worked
returns-in_default-clause-worked g c =
    unpolled_worked (g.P.Port.client c.args.port.now) (g.P.Port.front c.args.port.now) (g.P.Port.front c.poll.new.port)
    c.args.operator.now c.poll.new.self c.in_default.ensures.memory

pub returns-then-calls-lt18446744073709551615-clause-worked :
    goal.returns-then-calls-lt18446744073709551615-clause-worked
returns-then-calls-lt18446744073709551615-clause-worked g c =
    polled_worked (g.P.Port.client c.args.port.now) (g.P.Port.front c.args.port.now) (g.P.Port.front c.poll.new.port)
    c.args.operator.now c.poll.new.self c.in-Ok.poll c.in-Ok.ensures.polled

pub returns-clause-worked : goal.returns-clause-worked
returns-clause-worked g c =
    polled_worked (g.P.Port.client c.args.port.now) (g.P.Port.front c.args.port.now) (g.P.Port.front c.poll.new.port)
    c.args.operator.now c.poll.new.self c.in-Ok.poll c.in-Ok.ensures.polled
