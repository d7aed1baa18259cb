use Rattle.feed_text.specs.Grammar.{dot_line}
use Rattle.feed_text.proofs.LineWords.{different_word, same_word}
use Rattle.ingest_text.proofs.Blocks.{dot_here, row_found}
use Rattle.ingest_text.proofs.ingest_reading.block_line.Goals as goal

pub returns-then-eq : goal.returns-then-eq
returns-then-eq c =
    dot_here c.args.feed c.args.block c.args.line.now
    (same_word c.args.line.now c.as_slice.result.now dot_line c.eq.result c.eq.ensures c.if-eq.true c.as_slice.ensures) c.closing.result
    c.closing.ensures

pub returns-in-Some : goal.returns-in-Some
returns-in-Some c =
    let row = rw c.in-Some.is at c.in_ok-row.ensures in
    row_found c.args.feed c.args.block c.args.line.now
    (different_word c.args.line.now c.as_slice.result.now dot_line c.eq.result c.eq.ensures c.if-eq.false c.as_slice.ensures)
    c.in-Some.row row.0 row.1 c.adding.result c.adding.ensures
