use Rattle.history_core.proofs.stretch_laws.empty_or_last.Goals as goal
use Rattle.history_core.proofs.Endings.{empty_law}

pub returns : goal.returns
returns c = empty_law
