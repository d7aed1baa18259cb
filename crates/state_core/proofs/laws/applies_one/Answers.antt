use Rattle.state_core.proofs.Determined as laws
use Rattle.state_core.proofs.laws.applies_one.Goals as goal

pub returns : goal.returns
returns c = laws.applies_one
