use Rattle.reclock_client.proofs.KnownLaws.{step_is_known}
use Rattle.reclock_client.proofs.laws.step_is_known.Goals as goal

pub returns : goal.returns
returns c = step_is_known
