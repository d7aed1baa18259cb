use Rattle.state_core.proofs.Staying as laws
use Rattle.state_core.proofs.laws.token_stays.Goals as goal

pub returns : goal.returns
returns c = laws.token_stays
