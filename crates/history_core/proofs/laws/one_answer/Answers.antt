use Rattle.history_core.proofs.laws.one_answer.Goals as goal
use Rattle.history_core.proofs.OneAnswer.{append_law, read_law}

pub returns-clause-append : goal.returns-clause-append
returns-clause-append c = append_law

pub returns-clause-read : goal.returns-clause-read
returns-clause-read c = read_law
