use Rattle.history_core.proofs.laws.member_new.Goals as goal
use Rattle.history_core.proofs.Members.{new_law}

pub returns : goal.returns
returns c = new_law
