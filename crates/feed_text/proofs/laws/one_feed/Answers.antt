use Rattle.feed_text.proofs.Faults as faults
use Rattle.feed_text.proofs.laws.one_feed.Goals as goal

pub returns : goal.returns
returns c = faults.one_feed
