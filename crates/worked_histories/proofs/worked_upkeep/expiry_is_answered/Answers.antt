use Rattle.worked_histories.proofs.worked_upkeep.expiry_is_answered.Goals as goal
use Rattle.worked_histories.proofs.WorkedUpkeep.{none_answered, due_not_none, empty_none}

pub returns-clause-none : goal.returns-clause-none
returns-clause-none c = none_answered

pub returns-clause-due : goal.returns-clause-due
returns-clause-due c h = due_not_none h

pub returns-clause-empty : goal.returns-clause-empty
returns-clause-empty c = empty_none
