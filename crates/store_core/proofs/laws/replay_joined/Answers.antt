use Rattle.store_core.proofs.PortLaws.{replay-append}
use Rattle.store_core.proofs.laws.replay_joined.Goals as goal

pub returns : goal.returns
returns c = replay-append
