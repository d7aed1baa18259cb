use Rattle.history_core.proofs.member_laws.own_state_there.Goals as goal
use Rattle.history_core.proofs.OwnMembers.{there_law}

pub returns : goal.returns
returns c = there_law
