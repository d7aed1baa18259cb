use Rattle.reclock_client.proofs.Proposing.{data_calls}
use Rattle.reclock_client.proofs.laws.data_calls.Goals as goal

pub returns : goal.returns
returns c = data_calls
