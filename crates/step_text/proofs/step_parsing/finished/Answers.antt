use Rattle.std.proofs.Common.{sym, ◌∙◌, arith}
use Rattle.step_text.proofs.Leading.{none_of, spelled}
use Rattle.step_text.proofs.step_parsing.finished.Goals as goal

pub returns-clause-read : goal.returns-clause-read
returns-clause-read c =
    spelled c.args.read.so_far c.args.bytes.now c.requires.leads (omega (arith, c.if-bytes-gt-MAX_BYTES.false))
    (none_of c.args.read.so_far.block (sym c.is_some.ensures ∙ c.if-is_some.false))
