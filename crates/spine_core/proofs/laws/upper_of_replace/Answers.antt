use Rattle.spine_core.proofs.SpineLaws as laws
use Rattle.spine_core.proofs.laws.upper_of_replace.Goals as goal

pub returns : goal.returns
returns c = laws.spine_upper-replaced
