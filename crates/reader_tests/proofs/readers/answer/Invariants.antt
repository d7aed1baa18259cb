use Rattle.read_client.specs.Reading.{IsSound}
use Rattle.reader_tests.proofs.readers.answer.Given as goal

abbrev pub invariant-loop : goal.invariant-loop
invariant-loop l = IsSound l.reader
