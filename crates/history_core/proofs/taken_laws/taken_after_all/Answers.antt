use Rattle.history_core.proofs.taken_laws.taken_after_all.Goals as goal
use Rattle.history_core.proofs.TakenLaws.{taken_law}

pub returns : goal.returns
returns c = taken_law
