use Rattle.std.proofs.Common.{ap, subst, sym}
use Rattle.reclock_client.specs.Commands.{Next}
use Rattle.reclock_client.specs.Operators.{IsCourse}
use Rattle.reclock_client.proofs.Raising.{content_rises}
use Rattle.reclock_client.proofs.courses.Course.with_content.Goals as goal

pub returns-clause-course : goal.returns-clause-course
returns-clause-course c = λ taken k. subst IsCourse (sym (ap (λ (n : Next). n.0) c.go.ensures.next)) (record {
  raise = content_rises c.args.self.now.since c.args.rows c.as_slice.result.now c.new.result c.foreign_row.result c.new-2.result
      c.foreign_row.ensures c.new.ensures c.as_slice.ensures c.in_default.is c.new-2.ensures;
  light = k.light;
})
