use Rattle.reclock_client.proofs.MintFits as mints
use Rattle.reclock_client.proofs.laws.mint_fits.Goals as goal

pub returns : goal.returns
returns c = mints.mint_fits
