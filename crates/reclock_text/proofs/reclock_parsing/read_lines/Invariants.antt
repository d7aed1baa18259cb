use Rattle.std.proofs.Common.{◌≡◌, ◌+◌, ◌≤◌, length}
use Rattle.feed_text.specs.Lines.{lines_of}
use Rattle.remap_core.specs.Reclocking.{weight_of_rows}
use Rattle.reclock_text.specs.declared.limits.TheConstants.{MAX_WEIGHT}
use Rattle.reclock_text.proofs.Leading.{Reads}
use Rattle.reclock_text.proofs.reclock_parsing.read_lines.Given as goal

abbrev pub invariant-loop-rest : goal.invariant-loop-rest
invariant-loop-rest l = record {
  reads : Reads l.fn.operators (lines_of l.fn.text) (lines_of l.rest) l.so_far.feed l.number;
  few : l.number + length l.rest ≤ length l.fn.text;
  light : l.so_far.weight ≤ MAX_WEIGHT;
  weighed : l.so_far.weight ≡ weight_of_rows l.so_far.feed.rows;
}

abbrev pub decreases-loop-rest : goal.decreases-loop-rest
decreases-loop-rest l = length l.rest
