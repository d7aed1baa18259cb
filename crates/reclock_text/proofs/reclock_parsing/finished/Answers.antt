use Rattle.std.proofs.Common.{arith}
use Rattle.feed_text.specs.Grammar.{lines_read}
use Rattle.reclock_text.proofs.Leading.{spelled, within}
use Rattle.reclock_text.proofs.reclock_parsing.finished.Goals as goal

pub returns-clause-read : goal.returns-clause-read
returns-clause-read c =
    spelled c.args.operators c.args.read.feed c.args.bytes.now c.requires.leads (omega (arith, c.if-bytes-gt-MAX_BYTES.false))

pub returns-clause-within : goal.returns-clause-within
returns-clause-within c = within c.args.operators (lines_read c.args.bytes.now) c.args.read.feed c.requires.leads
