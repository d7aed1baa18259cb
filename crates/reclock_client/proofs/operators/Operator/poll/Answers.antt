use Rattle.std.proofs.Common.{rules, ◌≡◌, sym, subst}
use Rattle.reclock_client.specs.Knowing.{Knows}
use Rattle.reclock_client.proofs.Keeping.{bound_knows, readied_knows}
use Rattle.reclock_client.specs.Operators.{part_of}
use Rattle.reclock_client.specs.Polling.{Starts, bound}
use Rattle.reclock_client.specs.declared.operators.Operator.{Operator}
use Rattle.reclock_client.proofs.Polled.{polled_ready}
use Rattle.reclock_client.proofs.operators.Operator.poll.Goals as goal

pub returns-clause-polled : goal.returns-clause-polled
returns-clause-polled g c =
    let is : c.bind.new.self ≡ bound c.args.self.now.course = search rules in
    let mid : Operator = record c.args.self.now { course = c.bind.new.self } in
    let starts : Starts (part_of c.bind.new.self.step) mid c.ready.new.self = search rules in
    polled_ready (g.P.Port.client c.args.port.now) (g.P.Port.front c.args.port.now) (g.P.Port.front c.poll_ready.new.port) c.args.self.now
    c.ready.new.self c.poll_ready.new.self c.bind.new.self is starts c.ready.ensures.sound c.ready.ensures.turn c.in_ok-ready.ensures.open c.poll_ready.result
    c.poll_ready.ensures.polled

pub returns-in_err-ready-clause-knows : goal.returns-in_err-ready-clause-knows
returns-in_err-ready-clause-knows g c = λ k counts.
    let is : c.bind.new.self ≡ bound c.args.self.now.course = search rules in
    subst (Knows (g.P.Port.front c.args.port.now)) (sym c.in_err-ready.ensures.memory)
    (bound_knows (g.P.Port.front c.args.port.now) c.args.self.now c.requires.open c.bind.new.self is k)

pub returns-clause-knows : goal.returns-clause-knows
returns-clause-knows g c = λ k counts.
    let is : c.bind.new.self ≡ bound c.args.self.now.course = search rules in
    let mid : Operator = record c.args.self.now { course = c.bind.new.self } in
    let starts : Starts (part_of c.bind.new.self.step) mid c.ready.new.self = search rules in
    c.poll_ready.ensures.knows
    (readied_knows (g.P.Port.front c.args.port.now) c.args.self.now c.requires.open c.bind.new.self c.ready.new.self is starts k) counts
