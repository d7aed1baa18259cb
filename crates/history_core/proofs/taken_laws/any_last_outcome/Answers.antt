use Rattle.history_core.proofs.taken_laws.any_last_outcome.Goals as goal
use Rattle.history_core.proofs.TakenLaws.{any_outcome}

pub returns : goal.returns
returns c = any_outcome
