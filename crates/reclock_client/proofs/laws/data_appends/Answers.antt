use Rattle.reclock_client.proofs.Proposing.{data_appends}
use Rattle.reclock_client.proofs.laws.data_appends.Goals as goal

pub returns : goal.returns
returns c = data_appends
