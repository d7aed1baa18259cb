use Rattle.history_core.proofs.member_laws.own_member_stands.Goals as goal
use Rattle.history_core.proofs.OwnMembers.{stands_law}

pub returns : goal.returns
returns c = stands_law
