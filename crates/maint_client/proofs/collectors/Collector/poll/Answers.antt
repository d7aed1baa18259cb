use Rattle.maint_client.proofs.CollectKeeping.{keeps}
use Rattle.maint_client.proofs.collectors.Collector.poll.Goals as goal

pub poll-requires-clause-keeps : goal.poll-requires-clause-keeps
poll-requires-clause-keeps g c = keeps
