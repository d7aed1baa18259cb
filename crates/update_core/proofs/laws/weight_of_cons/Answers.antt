use Rattle.update_core.proofs.WeightLaws as laws
use Rattle.update_core.proofs.laws.weight_of_cons.Goals as goal

pub returns : goal.returns
returns c = laws.weight_of-cons
