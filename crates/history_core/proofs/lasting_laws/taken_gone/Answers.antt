use Rattle.history_core.proofs.LastingLaws.{gone_law}
use Rattle.history_core.proofs.lasting_laws.taken_gone.Goals as goal

pub returns : goal.returns
returns c = gone_law
