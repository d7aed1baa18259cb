use Rattle.history_core.proofs.stretch_laws.hold_stays.Goals as goal
use Rattle.history_core.proofs.Holding.{hold_law}

pub returns : goal.returns
returns c = hold_law
