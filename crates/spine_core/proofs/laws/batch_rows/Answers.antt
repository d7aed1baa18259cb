use Rattle.spine_core.proofs.ContentLaws as laws
use Rattle.spine_core.proofs.laws.batch_rows.Goals as goal

pub returns : goal.returns
returns c = record { is = laws.batch_is; only = laws.is_batch }
