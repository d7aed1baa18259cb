use Rattle.worked_histories.proofs.worked_answers.snapshot_is_both_rows.Goals as goal
use Rattle.worked_histories.proofs.WorkedAnswers.{snapshot_rows, snapshot_only, snapshot_no_less, snapshot_got, scan_not_got, snapshot_cost}

pub returns-clause-legal : goal.returns-clause-legal
returns-clause-legal c = snapshot_rows

pub returns-clause-no_other : goal.returns-clause-no_other
returns-clause-no_other c a h = snapshot_only a h

pub returns-clause-no_less : goal.returns-clause-no_less
returns-clause-no_less c h = snapshot_no_less h

pub returns-clause-got : goal.returns-clause-got
returns-clause-got c = snapshot_got

pub returns-clause-not_got : goal.returns-clause-not_got
returns-clause-not_got c h = scan_not_got h

pub returns-clause-cost : goal.returns-clause-cost
returns-clause-cost c = snapshot_cost
