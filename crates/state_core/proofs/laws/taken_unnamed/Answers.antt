use Rattle.state_core.proofs.Keys as laws
use Rattle.state_core.proofs.laws.taken_unnamed.Goals as goal

pub returns : goal.returns
returns c = record { before = laws.taken_named; after = laws.taken_unnamed }
