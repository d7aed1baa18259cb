use Rattle.worked_histories.proofs.worked.broken_first_version.Goals as goal
use Rattle.worked_histories.proofs.WorkedBrokenSets.{first_is_init}

pub returns : goal.returns
returns c = first_is_init
