use Rattle.worked_histories.proofs.worked.worked_accepts.Goals as goal
use Rattle.worked_histories.proofs.WorkedAccepted.{accepted_before, accepted_early, accepted_late, accepted_all}

pub returns : goal.returns
returns c = record { before = accepted_before; early = accepted_early; both = accepted_late; whole = accepted_all }
