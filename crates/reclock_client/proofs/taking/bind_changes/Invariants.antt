use Rattle.std.proofs.Common.{◌≡◌, ◌-◌, drop, length}
use Rattle.remap_core.specs.Extending.{with_rows}
use Rattle.reclock_client.specs.Reading.{AllRaise}
use Rattle.reclock_client.proofs.taking.bind_changes.Given as goal

abbrev pub invariant-loop-done : goal.invariant-loop-done
invariant-loop-done l = record {
  kept : l.rows ≡ l.fn.rows;
  same : with_rows l.bindings (drop l.done l.rows) ≡ with_rows l.fn.bindings (drop l.fn.done l.fn.rows);
  raise : AllRaise l.bindings (drop l.done l.rows);
}

abbrev pub decreases-loop-done : goal.decreases-loop-done
decreases-loop-done l = length l.rows - l.done
