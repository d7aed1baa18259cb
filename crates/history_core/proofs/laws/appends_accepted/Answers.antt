use Rattle.history_core.proofs.laws.appends_accepted.Goals as goal
use Rattle.history_core.proofs.Appends.{accepted_law}

pub returns : goal.returns
returns c = accepted_law
