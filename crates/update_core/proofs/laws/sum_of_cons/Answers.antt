use Rattle.update_core.proofs.TallyLaws as laws
use Rattle.update_core.proofs.laws.sum_of_cons.Goals as goal

pub returns : goal.returns
returns c = laws.sum_of-cons
