use Rattle.history_core.proofs.LawfulLaws.{floor_law}
use Rattle.history_core.proofs.laws.floor_never_falls.Goals as goal

pub returns : goal.returns
returns c = floor_law
