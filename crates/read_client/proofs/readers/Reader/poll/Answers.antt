use Rattle.read_client.proofs.Machining.{keeps}
use Rattle.read_client.proofs.readers.Reader.poll.Goals as goal

pub poll-requires-clause-keeps : goal.poll-requires-clause-keeps
poll-requires-clause-keeps g c = keeps
