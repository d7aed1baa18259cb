use Rattle.std.proofs.Common.{length, ap, refl, arith}
use Rattle.feed_text.proofs.TakenLines.{full_refuses, other_line_refused}
use Rattle.feed_text.proofs.feed_readers.between_commands.Goals as goal

pub returns-then-as_slice-ge-MAX_COMMANDS-clause-fault : goal.returns-then-as_slice-ge-MAX_COMMANDS-clause-fault
returns-then-as_slice-ge-MAX_COMMANDS-clause-fault c = (refl, full_refuses c.args.commands c.args.number c.args.line.now c.requires.taken (omega (arith, ap length c.as_slice.ensures)))

pub returns-in-None-clause-fault : goal.returns-in-None-clause-fault
returns-in-None-clause-fault c = (refl, other_line_refused c.args.commands c.args.number c.args.line.now c.requires.taken c.in_default.ensures c.in-None.ensures)
