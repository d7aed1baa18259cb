use Rattle.reclock_client.proofs.MintSums.{mint_raises_sums}
use Rattle.reclock_client.proofs.laws.mint_raises_sums.Goals as goal

pub returns : goal.returns
returns c = mint_raises_sums
