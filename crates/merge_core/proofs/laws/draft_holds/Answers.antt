use Rattle.merge_core.proofs.Drafted.{draft_holds}
use Rattle.merge_core.proofs.laws.draft_holds.Goals as goal

pub returns : goal.returns
returns c = draft_holds
