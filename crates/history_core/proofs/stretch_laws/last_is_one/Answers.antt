use Rattle.history_core.proofs.stretch_laws.last_is_one.Goals as goal
use Rattle.history_core.proofs.Endings.{last_law}

pub returns : goal.returns
returns c = last_law
