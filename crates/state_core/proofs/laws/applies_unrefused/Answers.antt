use Rattle.state_core.proofs.Refused as laws
use Rattle.state_core.proofs.laws.applies_unrefused.Goals as goal

pub returns : goal.returns
returns c = record { applies = laws.applies_unrefused; unrefused = laws.unrefused }
