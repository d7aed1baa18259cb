use Rattle.reclock_client.proofs.Agreeing.{knows_on}
use Rattle.reclock_client.proofs.laws.knowing_goes_on.Goals as goal

pub returns : goal.returns
returns c = knows_on
