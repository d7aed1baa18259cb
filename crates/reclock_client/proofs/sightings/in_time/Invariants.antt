use Rattle.std.proofs.Common.{◌≡◌, drop}
use Rattle.reclock_client.specs.Reading.{in_time}
use Rattle.reclock_client.proofs.sightings.in_time.Given as goal

abbrev pub invariant-loop-row : goal.invariant-loop-row
invariant-loop-row l = record { left : in_time l.last (drop l.row-index l.rows) ≡ in_time l.from l.rows }
