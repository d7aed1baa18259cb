use Rattle.std.proofs.Common.{refl}
use Rattle.feed_text.specs.Grammar.{dot_line}
use Rattle.feed_text.proofs.LineWords.{same_word, different_word}
use Rattle.feed_text.proofs.TakenLines.{dot_taken, no_row_refused}
use Rattle.feed_text.proofs.feed_readers.in_block.Goals as goal

pub returns-then-eq-clause-ok : goal.returns-then-eq-clause-ok
returns-then-eq-clause-ok c =
    let dot = same_word c.args.line.now c.as_slice.result.now dot_line c.eq.result c.eq.ensures c.if-eq.true c.as_slice.ensures in
    dot_taken c.args.commands c.push.new.self c.args.block c.args.line.now dot c.in_ok-push.ensures.ok

pub returns-in-None-clause-fault : goal.returns-in-None-clause-fault
returns-in-None-clause-fault c =
    let apart = different_word c.args.line.now c.as_slice.result.now dot_line c.eq.result c.eq.ensures c.if-eq.false c.as_slice.ensures in
    let none = rw c.in-None.is at c.in_ok-block.ensures in
    (refl, no_row_refused c.args.commands c.args.block c.args.number c.args.line.now c.requires.taken apart none)
