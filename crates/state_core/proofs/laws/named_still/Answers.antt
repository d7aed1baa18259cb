use Rattle.state_core.proofs.Staying as laws
use Rattle.state_core.proofs.laws.named_still.Goals as goal

pub returns : goal.returns
returns c = record { still = laws.named_still; added = laws.added_named }
