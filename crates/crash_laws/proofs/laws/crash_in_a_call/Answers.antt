use Rattle.crash_laws.proofs.Keeping.{crash_in_a_call}
use Rattle.crash_laws.proofs.laws.crash_in_a_call.Goals as goal

pub returns : goal.returns
returns c = crash_in_a_call
