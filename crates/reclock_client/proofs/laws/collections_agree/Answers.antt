use Rattle.reclock_client.proofs.KnownStays.{collections_agree}
use Rattle.reclock_client.proofs.laws.collections_agree.Goals as goal

pub returns : goal.returns
returns c = collections_agree
