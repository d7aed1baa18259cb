use Rattle.std.proofs.Common.{◌≡◌, drop}
use Rattle.store_core.specs.Faults.{outcome_at}
use Rattle.store_core.proofs.fault_lists.outcome_in.Given as goal

abbrev pub invariant-loop-fault : goal.invariant-loop-fault
invariant-loop-fault l = outcome_at (drop l.fault-index l.faults) l.number ≡ outcome_at l.faults l.number
