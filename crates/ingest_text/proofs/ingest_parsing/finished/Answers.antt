use Rattle.std.proofs.Common.{sym, ◌∙◌, arith}
use Rattle.feed_text.specs.Grammar.{lines_read}
use Rattle.ingest_text.proofs.Leading.{few_enough, holds, none_of, spelled}
use Rattle.ingest_text.proofs.ingest_parsing.finished.Goals as goal

pub returns-clause-read : goal.returns-clause-read
returns-clause-read c =
    spelled c.args.read.said c.args.bytes.now c.requires.leads (omega (arith, c.if-bytes-gt-MAX_BYTES.false))
    (none_of c.args.read.said.block (sym c.is_some.ensures ∙ c.if-is_some.false))

pub returns-clause-appends : goal.returns-clause-appends
returns-clause-appends c = (holds (lines_read c.args.bytes.now) c.args.read.said c.requires.leads).feed

pub returns-clause-few : goal.returns-clause-few
returns-clause-few c = few_enough c.args.read.said (holds (lines_read c.args.bytes.now) c.args.read.said c.requires.leads)
