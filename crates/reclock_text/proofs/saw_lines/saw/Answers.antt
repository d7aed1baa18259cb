use Rattle.std.proofs.Common.{◌^◌, ◌<◌, arith}
use Rattle.reclock_text.proofs.SawWords.{big_operator, no_frontier, no_time}
use Rattle.reclock_text.proofs.saw_lines.saw.Goals as goal

pub returns-then-operator-from : goal.returns-then-operator-from
returns-then-operator-from c =
    let bound : c.args.operators < 2 ^ 64 = omega (arith, c.ranges.operators.fits) in
    let head = c.in_ok-operator.ensures in
    big_operator c.args.operators c.args.line.now bound c.in_ok-rest.rest.now c.in_ok-rest.ensures c.in_ok-operator.operator
    c.in_ok-operator.rest.now head.0 head.1 (omega (arith, c.from.ensures, c.if-operator-from.true))

pub returns-in_err-time : goal.returns-in_err-time
returns-in_err-time c =
    let bound : c.args.operators < 2 ^ 64 = omega (arith, c.ranges.operators.fits) in
    let head = c.in_ok-operator.ensures in
    rw c.from_residual-in_err-time.ensures
    (no_time c.args.operators c.args.line.now bound c.in_ok-rest.rest.now c.in_ok-rest.ensures c.in_ok-operator.operator
    c.in_ok-operator.rest.now head.0 head.1 c.in_err-time.ensures)

pub returns-in_err-frontier : goal.returns-in_err-frontier
returns-in_err-frontier c =
    let bound : c.args.operators < 2 ^ 64 = omega (arith, c.ranges.operators.fits) in
    let head = c.in_ok-operator.ensures in
    let second = c.in_ok-time.ensures in
    rw c.from_residual-in_err-frontier.ensures
    (no_frontier c.args.operators c.args.line.now bound c.in_ok-rest.rest.now c.in_ok-rest.ensures c.in_ok-operator.operator
    c.in_ok-operator.rest.now head.0 head.1 c.in_ok-time.time c.in_ok-time.pairs.now second.0 second.1 c.in_err-frontier.ensures.none)
