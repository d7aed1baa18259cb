use Rattle.history_core.proofs.member_laws.own_kind_stays.Goals as goal
use Rattle.history_core.proofs.OwnMembers.{kind_law}

pub returns : goal.returns
returns c = kind_law
