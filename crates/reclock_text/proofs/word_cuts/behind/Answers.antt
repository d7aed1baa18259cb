use Rattle.std.proofs.Common.{refl}
use Rattle.feed_text.proofs.LineWords.{different_word}
use Rattle.reclock_text.proofs.Words.{no_word, other_first}
use Rattle.reclock_text.proofs.word_cuts.behind.Goals as goal

pub returns-in-None : goal.returns-in-None
returns-in-None c = no_word c.args.line.now c.args.word.now c.in-None.ensures

pub returns-else-eq : goal.returns-else-eq
returns-else-eq c =
    let cut = c.in-Some.ensures in
    let first = c.in-Some.first.now in
    other_first c.args.line.now c.args.word.now first c.in-Some.rest.now c.requires cut.0 cut.1
    (different_word first c.args.word.now c.args.word.now c.eq.result c.eq.ensures c.if-eq.false refl)
