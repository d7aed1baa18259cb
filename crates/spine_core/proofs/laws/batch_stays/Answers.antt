use Rattle.spine_core.proofs.ContentLaws as laws
use Rattle.spine_core.proofs.laws.batch_stays.Goals as goal

pub returns : goal.returns
returns c = laws.batch_of-more
