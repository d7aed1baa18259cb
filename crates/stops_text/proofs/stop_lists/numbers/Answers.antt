use Rattle.stops_text.proofs.StopWords.{bad_first, bad_second, uncut}
use Rattle.stops_text.proofs.stop_lists.numbers.Goals as goal

pub returns-in-None : goal.returns-in-None
returns-in-None c = uncut c.args.word.now c.in-None.ensures

pub returns-in-None-number : goal.returns-in-None-number
returns-in-None-number c =
    let cut = c.in-Some.ensures in
    bad_first c.args.word.now c.in-Some.first.now c.in-Some.second.now cut.0 cut.1 c.in-None-number.ensures.none

pub returns-in-None-number-2 : goal.returns-in-None-number-2
returns-in-None-number-2 c =
    let cut = c.in-Some.ensures in
    bad_second c.args.word.now c.in-Some.first.now c.in-Some.second.now cut.0 cut.1 c.in-None-number-2.ensures.none
