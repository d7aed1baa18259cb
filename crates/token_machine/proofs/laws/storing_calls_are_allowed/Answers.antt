use Rattle.token_machine.proofs.Ways.{storing_allowed}
use Rattle.token_machine.proofs.laws.storing_calls_are_allowed.Goals as goal

pub returns : goal.returns
returns c = storing_allowed
