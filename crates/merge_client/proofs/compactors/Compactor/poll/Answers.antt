use Rattle.merge_client.proofs.Machining.{keeps}
use Rattle.merge_client.proofs.compactors.Compactor.poll.Goals as goal

pub poll-requires-clause-keeps : goal.poll-requires-clause-keeps
poll-requires-clause-keeps g c = keeps
