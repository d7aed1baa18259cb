use Rattle.worked_histories.proofs.worked.worked_failures.Goals as goal
use Rattle.worked_histories.proofs.WorkedFailed.{with_lawful, again_lawful, took_accepts, lost_accepts, took_again_accepts}
use Rattle.worked_histories.proofs.WorkedFailed.{lost_again_accepts, took_again_reply, lost_again_reply}

pub returns : goal.returns
returns c = record {
  lawful = with_lawful;
  lawful_again = again_lawful;
  took = took_accepts;
  lost = lost_accepts;
  took_again =
      took_again_accepts;
  lost_again = lost_again_accepts;
  took_reply = took_again_reply;
  lost_reply = lost_again_reply;
}
