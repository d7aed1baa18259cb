use Rattle.store_core.proofs.PortLaws.{mine-gains}
use Rattle.store_core.proofs.laws.own_entry_gained.Goals as goal

pub returns : goal.returns
returns c = mine-gains
