use Rattle.history_core.proofs.laws.steps_join.Goals as goal
use Rattle.history_core.proofs.Steps.{grows_law, joined_law}

pub returns-clause-grows : goal.returns-clause-grows
returns-clause-grows c = grows_law

pub returns-clause-joined : goal.returns-clause-joined
returns-clause-joined c = joined_law
