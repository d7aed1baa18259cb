use Rattle.write_client.specs.Writing.{IsSound}
use Rattle.client_tests.proofs.drives.write_on.Given as goal

abbrev pub invariant-loop : goal.invariant-loop
invariant-loop l = IsSound l.writer
