use Rattle.state_core.proofs.NoMemory as laws
use Rattle.state_core.proofs.laws.no_refusal_is_memory.Goals as goal

pub returns : goal.returns
returns c = laws.no_memory
