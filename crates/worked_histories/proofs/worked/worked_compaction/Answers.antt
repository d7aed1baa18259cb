use Rattle.worked_histories.proofs.worked.worked_compaction.Goals as goal
use Rattle.worked_histories.proofs.WorkedStands.{compacted_stands}
use Rattle.worked_histories.proofs.WorkedCompaction.{compacted_lawful, compacted_accepts}

pub returns : goal.returns
returns c = record { lawful = compacted_lawful; accepted = compacted_accepts; stands = compacted_stands }
