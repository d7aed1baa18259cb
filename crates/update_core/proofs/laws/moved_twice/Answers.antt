use Rattle.update_core.proofs.TallyLaws as laws
use Rattle.update_core.proofs.laws.moved_twice.Goals as goal

pub returns : goal.returns
returns c = laws.moved-moved
