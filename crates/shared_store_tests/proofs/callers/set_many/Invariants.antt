use Rattle.shared_store_tests.specs.Ports.{IsPortOf}
use Rattle.shared_store_tests.proofs.callers.set_many.Given as goal

abbrev pub invariant-loop-index : goal.invariant-loop-index
invariant-loop-index g l = IsPortOf l.turnstile l.fn.pass l.port
