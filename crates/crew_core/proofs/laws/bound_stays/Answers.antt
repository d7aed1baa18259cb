use Rattle.crew_core.proofs.Bounds.{bound_law}
use Rattle.crew_core.proofs.laws.bound_stays.Goals as goal

pub returns : goal.returns
returns c = bound_law
