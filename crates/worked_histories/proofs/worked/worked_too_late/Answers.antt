use Rattle.worked_histories.proofs.worked.worked_too_late.Goals as goal
use Rattle.worked_histories.proofs.WorkedFailed.{late_lawful, late_reply, late_accepts}

pub returns : goal.returns
returns c = record { lawful = late_lawful; reply = late_reply; accepted = late_accepts }
