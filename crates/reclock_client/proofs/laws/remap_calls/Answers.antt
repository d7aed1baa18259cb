use Rattle.reclock_client.proofs.Proposing.{remap_calls}
use Rattle.reclock_client.proofs.laws.remap_calls.Goals as goal

pub returns : goal.returns
returns c = remap_calls
