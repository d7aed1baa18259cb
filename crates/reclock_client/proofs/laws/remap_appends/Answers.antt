use Rattle.reclock_client.proofs.Proposing.{remap_appends}
use Rattle.reclock_client.proofs.laws.remap_appends.Goals as goal

pub returns : goal.returns
returns c = remap_appends
