use Rattle.std.proofs.Common.{arith}
use Rattle.step_text.proofs.Texts.{no_polls}
use Rattle.step_text.proofs.counts.polls.Goals as goal

pub returns-then-count-lt1 : goal.returns-then-count-lt1
returns-then-count-lt1 c =
    no_polls c.args.word.now c.in_ok-count.count c.in_ok-count.ensures.some.0 c.in_ok-count.ensures.some.1
    (λ within. omega (arith, within.0, c.if-count-lt1.true))

pub returns-then-count-gt-MAX_POLLS : goal.returns-then-count-gt-MAX_POLLS
returns-then-count-gt-MAX_POLLS c =
    no_polls c.args.word.now c.in_ok-count.count c.in_ok-count.ensures.some.0 c.in_ok-count.ensures.some.1
    (λ within. omega (arith, within.1, c.if-count-gt-MAX_POLLS.true))
