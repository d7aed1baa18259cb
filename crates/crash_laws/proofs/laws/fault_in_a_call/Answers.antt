use Rattle.crash_laws.proofs.Keeping.{fault_in_a_call}
use Rattle.crash_laws.proofs.laws.fault_in_a_call.Goals as goal

pub returns : goal.returns
returns c = fault_in_a_call
