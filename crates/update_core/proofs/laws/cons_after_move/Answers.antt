use Rattle.update_core.proofs.TallyLaws as laws
use Rattle.update_core.proofs.laws.cons_after_move.Goals as goal

pub returns : goal.returns
returns c = laws.cons-moved
