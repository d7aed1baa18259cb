use Rattle.change_core.proofs.Coming.{change_answered}
use Rattle.change_core.proofs.laws.changes_are_answered.Goals as goal

pub returns : goal.returns
returns c = change_answered
