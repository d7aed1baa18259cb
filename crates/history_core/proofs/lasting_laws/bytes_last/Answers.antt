use Rattle.history_core.proofs.LastingLaws.{bytes_law}
use Rattle.history_core.proofs.lasting_laws.bytes_last.Goals as goal

pub returns : goal.returns
returns c = bytes_law
