use Rattle.update_core.proofs.TallyLaws as laws
use Rattle.update_core.proofs.laws.weight_of_moved.Goals as goal

pub returns : goal.returns
returns c = laws.weight_of-moved
