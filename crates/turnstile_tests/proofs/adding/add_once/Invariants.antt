use Rattle.turnstile_tests.specs.Tallies.{GoesOn}
use Rattle.turnstile_tests.proofs.adding.add_once.Given as goal

abbrev pub invariant-loop : goal.invariant-loop
invariant-loop l = GoesOn l.turnstile l.fn.pass l.pass
