use Rattle.crew_core.proofs.Accepting.{storers_law}
use Rattle.crew_core.proofs.laws.storers_commit_accepted.Goals as goal

pub returns : goal.returns
returns c = storers_law
