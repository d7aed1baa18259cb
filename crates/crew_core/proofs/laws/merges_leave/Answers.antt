use Rattle.crew_core.proofs.CrewLaws.{merges_law}
use Rattle.crew_core.proofs.laws.merges_leave.Goals as goal

pub returns : goal.returns
returns c = merges_law
