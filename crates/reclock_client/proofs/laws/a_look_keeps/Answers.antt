use Rattle.reclock_client.proofs.LookRule.{keeps}
use Rattle.reclock_client.proofs.laws.a_look_keeps.Goals as goal

pub returns : goal.returns
returns c = keeps
