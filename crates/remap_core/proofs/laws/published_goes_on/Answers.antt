use Rattle.remap_core.proofs.PublishLaws as laws
use Rattle.remap_core.proofs.laws.published_goes_on.Goals as goal

pub returns : goal.returns
returns c = λ us s g h e u bs cs b d m n e0 eg eh eu rows. laws.published_goes_on rows e u bs cs
    (laws.agree us s g h e bs cs b d m n eg eh) e0 eu
