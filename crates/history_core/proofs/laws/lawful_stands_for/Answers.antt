use Rattle.history_core.proofs.LawfulLaws.{lawful_law}
use Rattle.history_core.proofs.laws.lawful_stands_for.Goals as goal

pub returns : goal.returns
returns c = lawful_law
