use Rattle.spine_core.proofs.ContentLaws as laws
use Rattle.spine_core.proofs.laws.batches_merge.Goals as goal

pub returns : goal.returns
returns c = laws.batches_merge
