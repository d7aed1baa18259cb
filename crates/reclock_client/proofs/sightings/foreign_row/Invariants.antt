use Rattle.std.proofs.Common.{◌≡◌, drop}
use Rattle.remap_core.specs.Extending.{rows_at}
use Rattle.reclock_client.specs.Reading.{foreign_time}
use Rattle.reclock_client.proofs.sightings.foreign_row.Given as goal

abbrev pub invariant-loop-row : goal.invariant-loop-row
invariant-loop-row l = record {
  left : foreign_time l.reached (rows_at l.time (drop l.row-index l.rows)) ≡ foreign_time l.frontier (rows_at l.time l.rows);
}
