use Rattle.read_client.specs.Reading.{IsSound}
use Rattle.client_tests.proofs.drives.read_on.Given as goal

abbrev pub invariant-loop : goal.invariant-loop
invariant-loop l = IsSound l.reader
