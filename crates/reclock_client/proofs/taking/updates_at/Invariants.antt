use Rattle.std.proofs.Common.{◌≡◌, ◌++◌, drop}
use Rattle.remap_core.specs.Extending.{rows_at}
use Rattle.reclock_client.proofs.taking.updates_at.Given as goal

abbrev pub invariant-loop-row : goal.invariant-loop-row
invariant-loop-row l = record { left : l.out ++ rows_at l.time (drop l.row-index l.rows) ≡ rows_at l.time l.rows }
