use Rattle.history_core.proofs.answer_laws.token_spent_once.Goals as goal
use Rattle.history_core.proofs.SpentLaws.{spent_law}

pub returns : goal.returns
returns c = spent_law
