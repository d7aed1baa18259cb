use Rattle.step_text.proofs.Lines.{begin_open, begin_short}
use Rattle.step_text.proofs.step_reading.begins.Goals as goal

pub returns-in-Some : goal.returns-in-Some
returns-in-Some c =
    begin_short c.args.so_far c.args.seat c.args.what.now c.in-Some.command c.in-Some.ensures.0 c.in-Some.ensures.1 c.begun.result
    c.begun.ensures

pub returns-in-None : goal.returns-in-None
returns-in-None c = begin_open c.args.so_far c.args.seat c.args.what.now c.in-None.ensures c.opened.result c.opened.ensures
