use Rattle.history_core.proofs.stretch_laws.quiet_stays.Goals as goal
use Rattle.history_core.proofs.Quiet.{quiet_law}

pub returns : goal.returns
returns c = quiet_law
