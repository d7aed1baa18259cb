use Rattle.write_client.specs.Writing.{IsSound}
use Rattle.client_tests.proofs.scenes.write_out.Given as goal

abbrev pub invariant-loop : goal.invariant-loop
invariant-loop l = IsSound l.writer
