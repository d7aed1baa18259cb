use Rattle.std.proofs.Common.{drop, length, ap, arith}
use Rattle.reclock_client.proofs.Binding.{all_bound, still_left}
use Rattle.reclock_client.proofs.taking.bind_changes.Goals as goal

pub returns-then-not-bind_one : goal.returns-then-not-bind_one
returns-then-not-bind_one c = λ since. still_left since c.args.bindings.now c.loop-done.bindings c.bind_one.new.bindings
    (drop c.args.done c.args.rows) c.loop-done.rows c.loop-done.done
    (c.bind_one.ensures.unchanged c.if-not-bind_one.true) c.loop-done.invariant.same c.loop-done.invariant.raise

pub returns : goal.returns
returns c = λ since. all_bound since c.args.bindings.now c.loop-done.bindings (drop c.args.done c.args.rows) c.loop-done.rows
    c.loop-done.done
    (omega (arith, c.loop-done-test.false, ap length c.as_slice.ensures)) c.loop-done.invariant.same
