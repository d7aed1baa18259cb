use Rattle.std.proofs.Common.{arith}
use Rattle.feed_text.proofs.Spelled.{no_negative, not_negative}
use Rattle.feed_text.proofs.numbers.negative.Goals as goal

pub returns-in_err-size-clause-none : goal.returns-in_err-size-clause-none
returns-in_err-size-clause-none c = rw c.from_residual.ensures (no_negative c.args.word.now c.in_err-size.ensures.none)

pub returns-then-size-eq0-clause-none : goal.returns-then-size-eq0-clause-none
returns-then-size-eq0-clause-none c =
    let number = c.in_ok-size.ensures.some in
    not_negative c.args.word.now c.in_ok-size.size number.0 number.1 (λ n low e. omega (arith, e))

pub returns-then-size-clause-none : goal.returns-then-size-clause-none
returns-then-size-clause-none c =
    let number = c.in_ok-size.ensures.some in
    not_negative c.args.word.now c.in_ok-size.size number.0 number.1 (λ n low e. omega (arith, e))
