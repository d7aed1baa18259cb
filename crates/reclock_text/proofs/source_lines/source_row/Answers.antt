use Rattle.reclock_text.proofs.SourceWords.{bad_row, found_row, rest_lacks}
use Rattle.reclock_text.proofs.source_lines.source_row.Goals as goal

pub row-requires : goal.row-requires
row-requires c = rest_lacks c.args.line.now c.in-Some.rest.now c.in-Some.partition c.in-Some.ensures.1 c.requires

pub returns-in-None-2 : goal.returns-in-None-2
returns-in-None-2 c =
    let told = c.in-Some.ensures in
    bad_row c.args.line.now c.in-Some.rest.now c.in-Some.partition told.0 told.1 (rw c.in-None-2.is at c.in_ok-row-in-Some.ensures)

pub returns-in-Some-2 : goal.returns-in-Some-2
returns-in-Some-2 c =
    let told = c.in-Some.ensures in
    let e = rw c.in-Some-2.is at c.in_ok-row-in-Some.ensures in
    found_row c.args.line.now c.in-Some.rest.now c.in-Some.partition c.in-Some-2.update c.within.result told.0 told.1 e.0 e.1
    c.within.ensures
