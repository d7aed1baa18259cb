use Rattle.read_client.proofs.Machining.{ending, keeps}
use Rattle.crew_tests.proofs.pins.with_pin.Goals as goal

pub drive-requires-clause-keeps : goal.drive-requires-clause-keeps
drive-requires-clause-keeps g c = keeps

pub drive-requires-clause-ending : goal.drive-requires-clause-ending
drive-requires-clause-ending g c = ending
