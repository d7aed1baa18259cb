use Rattle.worked_histories.proofs.worked_answers.snapshot_is_late.Goals as goal
use Rattle.worked_histories.proofs.WorkedAnswers.{late_legal, late_only, late_no_rows, late_cost}

pub returns-clause-legal : goal.returns-clause-legal
returns-clause-legal c = late_legal

pub returns-clause-no_other : goal.returns-clause-no_other
returns-clause-no_other c a h = late_only a h

pub returns-clause-no_rows : goal.returns-clause-no_rows
returns-clause-no_rows c h = late_no_rows h

pub returns-clause-cost : goal.returns-clause-cost
returns-clause-cost c = late_cost
