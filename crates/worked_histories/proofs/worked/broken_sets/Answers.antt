use Rattle.worked_histories.proofs.worked.broken_sets.Goals as goal
use Rattle.worked_histories.proofs.WorkedBrokenSets.{sets_same, sets_before_cas}
use Rattle.worked_histories.proofs.WorkedFailed.{sets_before_failure}

pub returns : goal.returns
returns c = record { other_bytes = sets_same; after_cas = sets_before_cas; after_failure = sets_before_failure }
