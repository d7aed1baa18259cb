use Rattle.history_core.proofs.taken_laws.stands_either_way.Goals as goal
use Rattle.history_core.proofs.TakenLaws.{in_progress, either_way}

pub returns-clause-in_progress : goal.returns-clause-in_progress
returns-clause-in_progress c = in_progress

pub returns-clause-failed : goal.returns-clause-failed
returns-clause-failed c = either_way
