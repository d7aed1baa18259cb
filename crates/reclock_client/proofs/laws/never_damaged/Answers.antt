use Rattle.reclock_client.proofs.Undamaged.{never_damaged}
use Rattle.reclock_client.proofs.laws.never_damaged.Goals as goal

pub returns : goal.returns
returns c = never_damaged
