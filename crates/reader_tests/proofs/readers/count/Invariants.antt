use Rattle.read_client.specs.Reading.{IsSound}
use Rattle.reader_tests.proofs.readers.count.Given as goal

abbrev pub invariant-loop-scene : goal.invariant-loop-scene
invariant-loop-scene l = IsSound l.reader
