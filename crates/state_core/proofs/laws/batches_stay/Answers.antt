use Rattle.state_core.proofs.Staying as laws
use Rattle.state_core.proofs.laws.batches_stay.Goals as goal

pub returns : goal.returns
returns c = record { others = laws.batches_stay; merge = laws.merge_stays }
