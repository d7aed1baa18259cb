use Rattle.history_core.proofs.LastingLaws.{number_law}
use Rattle.history_core.proofs.lasting_laws.number_once.Goals as goal

pub returns : goal.returns
returns c = number_law
