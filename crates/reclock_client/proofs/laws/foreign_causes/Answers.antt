use Rattle.reclock_client.proofs.Foreigners.{foreign_causes}
use Rattle.reclock_client.proofs.laws.foreign_causes.Goals as goal

pub returns : goal.returns
returns c = foreign_causes
