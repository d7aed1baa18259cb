use Rattle.read_machine.proofs.Moving.{nothing_checks}
use Rattle.read_machine.proofs.courses.Course.after_check.Goals as goal

pub returns-in-Nothing-clause-moves : goal.returns-in-Nothing-clause-moves
returns-in-Nothing-clause-moves g c =
    nothing_checks g.Q.Question.question c.args.self.now c.args.question.now c.args.key c.args.reply c.in_ok-look.field-0
    c.gone_or_missing-in-Nothing.result c.in-Nothing.is c.requires.known c.in_ok-look.ensures c.gone_or_missing-in-Nothing.ensures
