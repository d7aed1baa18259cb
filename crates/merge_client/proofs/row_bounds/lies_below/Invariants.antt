use Rattle.std.proofs.Common.{◌≡◌, drop}
use Rattle.merge_client.specs.Fitting.{lies_below}
use Rattle.merge_client.proofs.row_bounds.lies_below.Given as goal

abbrev pub invariant-loop-row : goal.invariant-loop-row
invariant-loop-row l = lies_below l.lower (drop l.row-index l.rows) ≡ lies_below l.lower l.rows
