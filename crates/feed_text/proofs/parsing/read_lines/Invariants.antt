use Rattle.std.proofs.Common.{◌≡◌, ◌++◌, ◌+◌, ◌≤◌, length}
use Rattle.feed_text.specs.Lines.{lines_of}
use Rattle.feed_text.specs.Reading.{taken_lines, IsTaken}
use Rattle.feed_text.proofs.parsing.read_lines.Given as goal

abbrev pub invariant-loop-rest : goal.invariant-loop-rest
invariant-loop-rest l = record {
  taken : IsTaken l.reader.commands l.reader.block l.reader.number;
  parts : taken_lines l.reader.commands l.reader.block ++ lines_of l.rest ≡ lines_of l.fn.text;
  few : l.reader.number + length l.rest ≤ length l.fn.text;
}

abbrev pub decreases-loop-rest : goal.decreases-loop-rest
decreases-loop-rest l = length l.rest
