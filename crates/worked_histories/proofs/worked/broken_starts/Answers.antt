use Rattle.worked_histories.proofs.worked.broken_starts.Goals as goal
use Rattle.worked_histories.proofs.WorkedStarts.{with_part_lawful, with_dropped_lawful, same_again_lawful}

pub returns : goal.returns
returns c = record { with_part = with_part_lawful; with_dropped = with_dropped_lawful; same_again = same_again_lawful }
