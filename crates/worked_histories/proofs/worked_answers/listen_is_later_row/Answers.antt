use Rattle.worked_histories.proofs.worked_answers.listen_is_later_row.Goals as goal
use Rattle.worked_histories.proofs.WorkedAnswers.{listen_step, listen_only, listen_no_less, listen_got, listen_cost}

pub returns-clause-legal : goal.returns-clause-legal
returns-clause-legal c = listen_step

pub returns-clause-no_other : goal.returns-clause-no_other
returns-clause-no_other c a h = listen_only a h

pub returns-clause-no_less : goal.returns-clause-no_less
returns-clause-no_less c h = listen_no_less h

pub returns-clause-got : goal.returns-clause-got
returns-clause-got c = listen_got

pub returns-clause-cost : goal.returns-clause-cost
returns-clause-cost c = listen_cost
