use Rattle.state_core.proofs.Rising as laws
use Rattle.state_core.proofs.laws.number_and_since_rise.Goals as goal

pub returns : goal.returns
returns c = record { number = laws.number_rises; since = laws.since_rises; shard = laws.shard_stays }
