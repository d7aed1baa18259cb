use Rattle.part_codec.proofs.RefusedTold as laws
use Rattle.part_codec.proofs.laws.part_or_fault.Goals as goal

pub returns-clause-either : goal.returns-clause-either
returns-clause-either c = laws.either

pub returns-clause-not_both : goal.returns-clause-not_both
returns-clause-not_both c = laws.not_both

pub returns-clause-one : goal.returns-clause-one
returns-clause-one c = laws.one_fault
