use Rattle.worked_histories.proofs.worked.broken_commits.Goals as goal
use Rattle.worked_histories.proofs.WorkedBrokenCas.{cas_seen, cas_own, cas_applies, merge_keeps}

pub returns : goal.returns
returns c = record { unseen = cas_seen; another = cas_own; misapplied = cas_applies; dropping = merge_keeps }
