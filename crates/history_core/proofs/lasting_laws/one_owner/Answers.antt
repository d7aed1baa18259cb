use Rattle.history_core.proofs.LastingLaws.{owner_law}
use Rattle.history_core.proofs.lasting_laws.one_owner.Goals as goal

pub returns : goal.returns
returns c = owner_law
