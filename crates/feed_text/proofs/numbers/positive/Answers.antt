use Rattle.feed_text.proofs.Spelled.{not_positive}
use Rattle.feed_text.proofs.numbers.positive.Goals as goal

pub returns-then-size-clause-none : goal.returns-then-size-clause-none
returns-then-size-clause-none c =
    let number = c.in_ok-size.ensures.some in
    not_positive c.args.word.now c.in_ok-size.size number.0 number.1 c.if-size.true
