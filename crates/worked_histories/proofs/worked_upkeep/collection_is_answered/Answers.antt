use Rattle.worked_histories.proofs.worked_upkeep.collection_is_answered.Goals as goal
use Rattle.worked_histories.proofs.WorkedUpkeep.{collection_answered, collection_only, collection_cost, empty_answered}

pub returns-clause-collected : goal.returns-clause-collected
returns-clause-collected c = collection_answered

pub returns-clause-no_other : goal.returns-clause-no_other
returns-clause-no_other c at deleted h = collection_only at deleted h

pub returns-clause-cost : goal.returns-clause-cost
returns-clause-cost c = collection_cost

pub returns-clause-empty : goal.returns-clause-empty
returns-clause-empty c = empty_answered
