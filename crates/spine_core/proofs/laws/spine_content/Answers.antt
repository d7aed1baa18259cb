use Rattle.spine_core.proofs.ContentLaws as laws
use Rattle.spine_core.proofs.laws.spine_content.Goals as goal

pub returns : goal.returns
returns c = laws.spine_content
