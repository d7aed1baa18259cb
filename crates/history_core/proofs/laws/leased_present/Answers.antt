use Rattle.history_core.proofs.LawfulLaws.{leased_law, unchanged_law}
use Rattle.history_core.proofs.laws.leased_present.Goals as goal

pub returns-clause-present : goal.returns-clause-present
returns-clause-present c = leased_law

pub returns-clause-unchanged : goal.returns-clause-unchanged
returns-clause-unchanged c = unchanged_law
