use Rattle.maint_client.proofs.Keeping.{keeps}
use Rattle.maint_client.proofs.expirers.Expirer.poll.Goals as goal

pub poll-requires-clause-keeps : goal.poll-requires-clause-keeps
poll-requires-clause-keeps g c = keeps
