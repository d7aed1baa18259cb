use Rattle.store_core.proofs.NewestLaws.{mine-newest, replay-newest}
use Rattle.store_core.proofs.laws.newest_first.Goals as goal

pub returns : goal.returns
returns c = record { replayed = replay-newest; own = mine-newest }
