use Rattle.reclock_text.proofs.Words.{number_uncut, other_number}
use Rattle.reclock_text.proofs.word_cuts.number_and_rest.Goals as goal

pub returns-in-None : goal.returns-in-None
returns-in-None c = number_uncut c.args.text.now c.in-None.ensures

pub returns-in-None-number : goal.returns-in-None-number
returns-in-None-number c =
    let cut = c.in-Some.ensures in
    other_number c.args.text.now c.in-Some.word.now c.in-Some.rest.now cut.0 cut.1 c.in-None-number.ensures.none
