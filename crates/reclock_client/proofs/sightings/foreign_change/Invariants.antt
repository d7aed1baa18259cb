use Rattle.std.proofs.Common.{◌≡◌, drop}
use Rattle.reclock_client.specs.Reading.{foreign_time}
use Rattle.reclock_client.proofs.sightings.foreign_change.Given as goal

abbrev pub invariant-loop-row : goal.invariant-loop-row
invariant-loop-row l = record { left : foreign_time l.reached (drop l.row-index l.rows) ≡ foreign_time l.frontier l.rows }
