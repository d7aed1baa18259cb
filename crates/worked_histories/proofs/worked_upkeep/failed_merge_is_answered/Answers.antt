use Rattle.worked_histories.proofs.worked_upkeep.failed_merge_is_answered.Goals as goal
use Rattle.worked_histories.proofs.WorkedUpkeep.{failed_answered, failed_not_superseded, failed_cost}

pub returns-clause-merged : goal.returns-clause-merged
returns-clause-merged c = failed_answered

pub returns-clause-no_superseded : goal.returns-clause-no_superseded
returns-clause-no_superseded c version h = failed_not_superseded version h

pub returns-clause-cost : goal.returns-clause-cost
returns-clause-cost c = failed_cost
