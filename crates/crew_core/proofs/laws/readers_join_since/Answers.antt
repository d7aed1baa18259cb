use Rattle.crew_core.proofs.Opening.{joins_since}
use Rattle.crew_core.proofs.laws.readers_join_since.Goals as goal

pub returns : goal.returns
returns c = joins_since
