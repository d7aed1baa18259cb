use Rattle.history_core.proofs.answer_laws.newest_shown.Goals as goal
use Rattle.history_core.proofs.AnswerLaws.{newest_law}

pub returns : goal.returns
returns c = newest_law
