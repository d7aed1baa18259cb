use Rattle.crew.proofs.MergeTurning.{finished_means}
use Rattle.crew.proofs.merging.CompactorWorker.closed.Goals as goal

pub returns-then-done-clause-comes : goal.returns-then-done-clause-comes
returns-then-done-clause-comes c = λ client front closed. finished_means c.args.self.now client front c.if-done.true closed

pub returns-clause-comes : goal.returns-clause-comes
returns-clause-comes c = λ client front closed. c.reopen.ensures.comes client front closed.told.due
