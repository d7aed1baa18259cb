use Rattle.reclock_client.proofs.MintLaws as mints
use Rattle.reclock_client.proofs.laws.mint_raises.Goals as goal

pub returns : goal.returns
returns c = mints.mint_raises
