use Rattle.ingest_text.proofs.OneFeed as found
use Rattle.ingest_text.proofs.laws.no_fault_in_a_feed.Goals as goal

pub returns : goal.returns
returns c = found.no_fault
