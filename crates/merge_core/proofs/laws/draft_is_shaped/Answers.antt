use Rattle.merge_core.proofs.Drafted.{draft_is_shaped}
use Rattle.merge_core.proofs.laws.draft_is_shaped.Goals as goal

pub returns : goal.returns
returns c = draft_is_shaped
