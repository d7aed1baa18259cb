use Rattle.history_core.proofs.stretch_laws.missing_is_gone.Goals as goal
use Rattle.history_core.proofs.Holding.{missing_law}

pub returns : goal.returns
returns c = missing_law
