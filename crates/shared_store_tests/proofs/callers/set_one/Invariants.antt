use Rattle.shared_store_tests.specs.Ports.{KeepsPass}
use Rattle.shared_store_tests.proofs.callers.set_one.Given as goal

abbrev pub invariant-loop : goal.invariant-loop
invariant-loop g l = KeepsPass l.initial.port l.port
