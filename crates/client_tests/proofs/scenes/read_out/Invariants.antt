use Rattle.read_client.specs.Reading.{IsSound}
use Rattle.client_tests.proofs.scenes.read_out.Given as goal

abbrev pub invariant-loop : goal.invariant-loop
invariant-loop l = IsSound l.reader
