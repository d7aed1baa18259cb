use Rattle.state_core.proofs.Floors as laws
use Rattle.state_core.proofs.laws.floor_rises.Goals as goal

pub returns : goal.returns
returns c = laws.floor_rises
