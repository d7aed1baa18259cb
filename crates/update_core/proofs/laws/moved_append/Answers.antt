use Rattle.update_core.proofs.TallyLaws as laws
use Rattle.update_core.proofs.laws.moved_append.Goals as goal

pub returns : goal.returns
returns c = laws.moved-append
