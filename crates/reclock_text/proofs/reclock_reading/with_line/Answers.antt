use Rattle.reclock_text.proofs.Lines.{neither, row_found}
use Rattle.reclock_text.proofs.reclock_reading.with_line.Goals as goal

pub returns-in-Some-2-clause-taken : goal.returns-in-Some-2-clause-taken
returns-in-Some-2-clause-taken c =
    let row = rw c.in-Some-2.is at c.in_ok-row-in-None.ensures in
    row_found c.args.operators c.args.so_far c.args.line.now c.in-Some-2.row c.in-None.ensures row.0 row.1 c.with_row.result
    c.with_row.ensures

pub returns-in-None-2-clause-taken : goal.returns-in-None-2-clause-taken
returns-in-None-2-clause-taken c =
    neither c.args.operators c.args.so_far c.args.line.now c.in-None.ensures (rw c.in-None-2.is at c.in_ok-row-in-None.ensures)
