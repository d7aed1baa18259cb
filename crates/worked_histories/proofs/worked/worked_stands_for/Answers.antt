use Rattle.worked_histories.proofs.worked.worked_stands_for.Goals as goal
use Rattle.worked_histories.proofs.WorkedStands.{prefixes_stand}
use Rattle.worked_histories.proofs.WorkedCollection.{worked_stands_for, stands_for_no_less}

pub returns : goal.returns
returns c = record { after_each = prefixes_stand; both = worked_stands_for; no_less = stands_for_no_less }
