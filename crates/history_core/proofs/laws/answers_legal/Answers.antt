use Rattle.history_core.proofs.laws.answers_legal.Goals as goal
use Rattle.history_core.proofs.AnswerLaws.{newest_law}
use Rattle.history_core.proofs.Answering.{once_law}
use Rattle.history_core.proofs.GotRows.{rows_law, step_law}

pub returns-clause-newest : goal.returns-clause-newest
returns-clause-newest c = newest_law

pub returns-clause-rows : goal.returns-clause-rows
returns-clause-rows c = rows_law

pub returns-clause-step : goal.returns-clause-step
returns-clause-step c = step_law

pub returns-clause-once : goal.returns-clause-once
returns-clause-once c = once_law
