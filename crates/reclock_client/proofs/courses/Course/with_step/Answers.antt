use Rattle.std.proofs.Common.{ap, subst, sym}
use Rattle.reclock_client.specs.Commands.{Next}
use Rattle.reclock_client.specs.Operators.{IsCourse}
use Rattle.reclock_client.proofs.Raising.{step_rises}
use Rattle.reclock_client.proofs.courses.Course.with_step.Goals as goal

pub returns-clause-course : goal.returns-clause-course
returns-clause-course c = λ taken k. subst IsCourse (sym (ap (λ (n : Next). n.0) c.go.ensures.next)) (record {
  raise = step_rises c.last_time.result c.args.self.now.bindings c.args.rows c.as_slice.result.now c.as_slice-2.result.now c.reached.result
      c.in_time.result c.foreign_change.result c.last_time.ensures.up_to c.in_time.ensures c.as_slice.ensures c.if-not-in_time.false
      c.foreign_change.ensures c.reached.ensures c.as_slice-2.ensures c.in_default.is;
  light = k.light;
})
