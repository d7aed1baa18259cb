use Rattle.store_core.proofs.HistoryLaws.{replay-push}
use Rattle.store_core.proofs.laws.replay_one_more.Goals as goal

pub returns : goal.returns
returns c = replay-push
