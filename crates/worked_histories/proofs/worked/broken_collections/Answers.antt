use Rattle.worked_histories.proofs.worked.broken_collections.Goals as goal
use Rattle.worked_histories.proofs.WorkedBrokenScans.{deletes_taken, deletes_below_floor, truncates_to_floor, truncates_after_deletes}

pub returns : goal.returns
returns c = record {
  untaken = deletes_taken;
  above_floor = deletes_below_floor;
  past_floor = truncates_to_floor;
  before_deletes = truncates_after_deletes;
}
