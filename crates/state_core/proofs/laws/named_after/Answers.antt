use Rattle.state_core.proofs.Keys as laws
use Rattle.state_core.proofs.laws.named_after.Goals as goal

pub returns : goal.returns
returns c = laws.named_after
