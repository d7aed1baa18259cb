use Rattle.step_text.proofs.Texts.{no_verb}
use Rattle.step_text.proofs.step_reading.free_line.Goals as goal

pub returns-in-None-verb_of : goal.returns-in-None-verb_of
returns-in-None-verb_of c =
    let cut = c.in-Some.ensures in
    no_verb c.args.so_far c.args.line.now c.in-Some.word.now c.in-Some.rest.now cut.0 cut.1 c.in-None-verb_of.ensures
