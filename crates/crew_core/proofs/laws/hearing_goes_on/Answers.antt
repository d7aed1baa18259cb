use Rattle.crew_core.proofs.Hearing.{on_law, stays_law}
use Rattle.crew_core.proofs.laws.hearing_goes_on.Goals as goal

pub returns-clause-stays : goal.returns-clause-stays
returns-clause-stays c = stays_law

pub returns-clause-on : goal.returns-clause-on
returns-clause-on c = on_law
