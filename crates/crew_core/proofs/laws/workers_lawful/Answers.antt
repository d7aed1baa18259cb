use Rattle.crew_core.proofs.CrewLaws.{lawful_law}
use Rattle.crew_core.proofs.laws.workers_lawful.Goals as goal

pub returns : goal.returns
returns c = lawful_law
