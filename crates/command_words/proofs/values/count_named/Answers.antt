use Rattle.std.proofs.Common.{arith}
use Rattle.command_words.proofs.Readers.{too_high, too_low}
use Rattle.command_words.proofs.values.count_named.Goals as goal

pub returns-then-count-low-clause-none : goal.returns-then-count-low-clause-none
returns-then-count-low-clause-none c = too_low c.args.text.now c.in-Some.count c.args.low c.args.high
    (omega (arith, c.ranges.high.fits)) c.in-Some.ensures.some c.if-count-low.true

pub returns-then-count-high-clause-none : goal.returns-then-count-high-clause-none
returns-then-count-high-clause-none c = too_high c.args.text.now c.in-Some.count c.args.low c.args.high
    (omega (arith, c.ranges.high.fits)) c.in-Some.ensures.some c.if-count-high.true
