use Rattle.feed_text.proofs.Faults as faults
use Rattle.feed_text.proofs.laws.no_fault_in_a_feed.Goals as goal

pub returns : goal.returns
returns c = faults.no_fault_in_a_feed
