use Rattle.step_text.proofs.Texts.{no_moment}
use Rattle.step_text.proofs.rules.at_moment.Goals as goal

pub returns-then-to-so_far : goal.returns-then-to-so_far
returns-then-to-so_far c =
    no_moment c.args.so_far c.args.rest.now c.in-Some.to c.in-Some.ensures.some.0 c.in-Some.ensures.some.1 c.if-to-so_far.true
