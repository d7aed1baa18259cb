use Rattle.store_core.proofs.PortLaws.{mine-grows}
use Rattle.store_core.proofs.laws.others_gain_nothing.Goals as goal

pub returns : goal.returns
returns c = mine-grows
