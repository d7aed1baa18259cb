use Rattle.history_core.proofs.ReadingFacts.{rows_in_is_part}
use Rattle.history_core.proofs.laws.rows_in_part.Goals as goal

pub returns : goal.returns
returns c = rows_in_is_part
