use Rattle.state_core.proofs.Keys as laws
use Rattle.state_core.proofs.laws.next_member_rises.Goals as goal

pub returns : goal.returns
returns c = laws.next_rises
