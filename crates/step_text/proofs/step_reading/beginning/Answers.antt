use Rattle.step_text.proofs.Lines.{begin_found, begin_of_none, no_begin}
use Rattle.step_text.proofs.step_reading.beginning.Goals as goal

pub returns-in-None : goal.returns-in-None
returns-in-None c = no_begin c.args.so_far c.args.rest.now c.in-None.ensures

pub returns-in-None-standing : goal.returns-in-None-standing
returns-in-None-standing c =
    let cut = c.in-Some.ensures in
    begin_of_none c.args.so_far c.args.rest.now c.in-Some.name.now c.in-Some.what.now cut.0 cut.1 c.in-None-standing.ensures

pub returns-in-Some-standing : goal.returns-in-Some-standing
returns-in-Some-standing c =
    let cut = c.in-Some.ensures in
    begin_found c.args.so_far c.args.rest.now c.in-Some.name.now c.in-Some.what.now cut.0 cut.1 c.in-Some-standing.seat
    c.in-Some-standing.ensures c.begins.result c.begins.ensures
