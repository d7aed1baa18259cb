use Rattle.history_core.proofs.PartContents as laws
use Rattle.history_core.proofs.part_laws.slice_of_parts.Goals as goal

pub returns : goal.returns
returns c = laws.slice_of_parts
