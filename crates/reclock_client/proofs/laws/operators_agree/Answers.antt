use Rattle.reclock_client.proofs.Agreeing.{operators_agree}
use Rattle.reclock_client.proofs.laws.operators_agree.Goals as goal

pub returns : goal.returns
returns c = operators_agree
