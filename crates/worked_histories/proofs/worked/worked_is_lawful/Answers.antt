use Rattle.worked_histories.proofs.worked.worked_is_lawful.Goals as goal
use Rattle.worked_histories.proofs.WorkedLaw.{worked_lawful, prefixes_lawful}

pub returns : goal.returns
returns c = record { whole = worked_lawful; prefixes = prefixes_lawful }
