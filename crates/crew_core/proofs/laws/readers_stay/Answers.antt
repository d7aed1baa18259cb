use Rattle.crew_core.proofs.CrewLaws.{readers_law}
use Rattle.crew_core.proofs.laws.readers_stay.Goals as goal

pub returns : goal.returns
returns c = readers_law
