use Rattle.std.proofs.Common.{refl}
use Rattle.feed_text.proofs.LineWords.{different_word, same_word}
use Rattle.ingest_text.proofs.Texts.{other_word, time_found, time_uncut}
use Rattle.ingest_text.proofs.timed_lines.time_behind.Goals as goal

pub returns-in-None : goal.returns-in-None
returns-in-None c = time_uncut c.args.word.now c.args.line.now c.in-None.ensures

pub returns-then-eq : goal.returns-then-eq
returns-then-eq c =
    let cut = c.in-Some.ensures in
    let first = c.in-Some.first.now in
    time_found c.args.word.now c.args.line.now first c.in-Some.rest.now c.requires cut.0 cut.1
    (same_word first c.args.word.now c.args.word.now c.eq.result c.eq.ensures c.if-eq.true refl) c.number.result c.number.ensures.some
    c.number.ensures.none

pub returns-else-eq : goal.returns-else-eq
returns-else-eq c =
    let cut = c.in-Some.ensures in
    let first = c.in-Some.first.now in
    other_word c.args.word.now c.args.line.now first c.in-Some.rest.now c.requires cut.0 cut.1
    (different_word first c.args.word.now c.args.word.now c.eq.result c.eq.ensures c.if-eq.false refl)
