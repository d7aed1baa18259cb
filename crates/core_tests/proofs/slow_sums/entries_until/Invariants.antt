use Rattle.std.proofs.Common.{◌≡◌, map, take}
use Rattle.update_core.specs.Updates.{seen_datum, datum_entry, until}
use Rattle.core_tests.proofs.slow_sums.entries_until.Given as goal

abbrev pub invariant-loop-update : goal.invariant-loop-update
invariant-loop-update l = map seen_datum l.out.items ≡ map datum_entry (until l.t (take l.update-index l.rows))
