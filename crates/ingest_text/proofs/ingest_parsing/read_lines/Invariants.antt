use Rattle.std.proofs.Common.{◌+◌, ◌≤◌, length}
use Rattle.feed_text.specs.Lines.{lines_of}
use Rattle.ingest_text.specs.Reading.{IsCounted}
use Rattle.ingest_text.proofs.Leading.{Reads}
use Rattle.ingest_text.proofs.ingest_parsing.read_lines.Given as goal

abbrev pub invariant-loop-rest : goal.invariant-loop-rest
invariant-loop-rest l = record {
  reads : Reads (lines_of l.fn.text) (lines_of l.rest) l.so_far.said l.number;
  few : l.number + length l.rest ≤ length l.fn.text;
  counted : IsCounted l.so_far.said l.so_far.counts;
}

abbrev pub decreases-loop-rest : goal.decreases-loop-rest
decreases-loop-rest l = length l.rest
