use Rattle.worked_histories.proofs.worked.broken_appends.Goals as goal
use Rattle.worked_histories.proofs.WorkedBrokenAppends.{appends_stored, appends_in_range, appends_rising, appends_counted}
use Rattle.worked_histories.proofs.WorkedBrokenAppends.{appends_weighed}

pub returns : goal.returns
returns c = record {
  unstored = appends_stored;
  out_of_range = appends_in_range;
  falling = appends_rising;
  too_many =
      appends_counted;
  too_heavy = appends_weighed;
}
