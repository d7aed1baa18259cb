use Rattle.part_codec.proofs.Parts as laws
use Rattle.part_codec.proofs.laws.one_reading.Goals as goal

pub returns : goal.returns
returns c = laws.one_reading
