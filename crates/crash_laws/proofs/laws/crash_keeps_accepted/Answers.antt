use Rattle.crash_laws.proofs.Keeping.{keeps_accepted}
use Rattle.crash_laws.proofs.laws.crash_keeps_accepted.Goals as goal

pub returns : goal.returns
returns c = keeps_accepted
