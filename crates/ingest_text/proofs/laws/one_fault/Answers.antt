use Rattle.ingest_text.proofs.OneFeed as found
use Rattle.ingest_text.proofs.laws.one_fault.Goals as goal

pub returns : goal.returns
returns c = found.one_fault
