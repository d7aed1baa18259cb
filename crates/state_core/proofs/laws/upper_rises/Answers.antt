use Rattle.state_core.proofs.Batches as laws
use Rattle.state_core.proofs.laws.upper_rises.Goals as goal

pub returns : goal.returns
returns c = laws.upper_rises
