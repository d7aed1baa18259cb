use Rattle.crew_core.proofs.CrewLaws.{competing_law}
use Rattle.crew_core.proofs.laws.competing_appends.Goals as goal

pub returns : goal.returns
returns c = competing_law
