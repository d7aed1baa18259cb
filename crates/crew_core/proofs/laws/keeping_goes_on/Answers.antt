use Rattle.crew_core.proofs.CrewLaws.{call_law, others_law, twice_law}
use Rattle.crew_core.proofs.laws.keeping_goes_on.Goals as goal

pub returns-clause-others : goal.returns-clause-others
returns-clause-others c = others_law

pub returns-clause-twice : goal.returns-clause-twice
returns-clause-twice c = twice_law

pub returns-clause-call : goal.returns-clause-call
returns-clause-call c = call_law
