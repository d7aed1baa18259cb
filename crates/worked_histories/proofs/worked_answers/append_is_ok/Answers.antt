use Rattle.worked_histories.proofs.worked_answers.append_is_ok.Goals as goal
use Rattle.worked_histories.proofs.WorkedAnswers.{append_ok, append_only, append_no_mismatch, append_cost}

pub returns-clause-legal : goal.returns-clause-legal
returns-clause-legal c = append_ok

pub returns-clause-no_other : goal.returns-clause-no_other
returns-clause-no_other c a h = append_only a h

pub returns-clause-no_mismatch : goal.returns-clause-no_mismatch
returns-clause-no_mismatch c h = append_no_mismatch h

pub returns-clause-cost : goal.returns-clause-cost
returns-clause-cost c = append_cost
