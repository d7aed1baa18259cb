use Rattle.step_text.proofs.Lines.{step_of_none}
use Rattle.step_text.proofs.rules.stepping.Goals as goal

pub returns-in-None-standing : goal.returns-in-None-standing
returns-in-None-standing c =
    let words = c.in-Some.words in
    let told = c.in-Some.ensures in
    step_of_none c.args.so_far c.args.rest.now words.name.now words.number told.1 told.2 c.in-None-standing.ensures
