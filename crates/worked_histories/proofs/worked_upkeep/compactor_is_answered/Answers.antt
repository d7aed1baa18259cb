use Rattle.worked_histories.proofs.worked_upkeep.compactor_is_answered.Goals as goal
use Rattle.worked_histories.proofs.WorkedUpkeep.{open_answered, merge_answered, renewal_answered, merge_only, merge_not_nothing, merge_cost}

pub returns-clause-opened : goal.returns-clause-opened
returns-clause-opened c = open_answered

pub returns-clause-merged : goal.returns-clause-merged
returns-clause-merged c = merge_answered

pub returns-clause-renewed : goal.returns-clause-renewed
returns-clause-renewed c = renewal_answered

pub returns-clause-no_other : goal.returns-clause-no_other
returns-clause-no_other c version h = merge_only version h

pub returns-clause-no_nothing : goal.returns-clause-no_nothing
returns-clause-no_nothing c version h = merge_not_nothing version h

pub returns-clause-cost : goal.returns-clause-cost
returns-clause-cost c = merge_cost
