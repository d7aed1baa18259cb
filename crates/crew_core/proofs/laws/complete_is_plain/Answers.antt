use Rattle.crew_core.proofs.Completing.{complete_law, empty_law}
use Rattle.crew_core.proofs.laws.complete_is_plain.Goals as goal

pub returns-clause-any : goal.returns-clause-any
returns-clause-any c = complete_law

pub returns-clause-empty : goal.returns-clause-empty
returns-clause-empty c = empty_law
