use Rattle.update_core.proofs.SliceLaws as laws
use Rattle.history_core.proofs.laws.slices_join.Goals as goal

pub returns : goal.returns
returns c = laws.slices_join
