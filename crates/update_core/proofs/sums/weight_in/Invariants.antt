use Rattle.std.proofs.Common.{◌≡◌, ◌*◌, ◌≤◌, ◌^◌, take}
use Rattle.update_core.specs.Updates.{weight_of}
use Rattle.update_core.proofs.sums.weight_in.Given as goal

abbrev pub invariant-loop-update : goal.invariant-loop-update
invariant-loop-update l = record {
  so_far : l.total ≡ weight_of (take l.update-index l.rows);
  small : l.total ≤ l.update-index * 2 ^ 63;
}
