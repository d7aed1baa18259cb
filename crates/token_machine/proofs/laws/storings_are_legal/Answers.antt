use Rattle.token_machine.proofs.Once.{legal}
use Rattle.token_machine.proofs.laws.storings_are_legal.Goals as goal

pub returns : goal.returns
returns c kind member token s new client list start e others es at tried moves = legal kind member token s client list start e others es at new tried moves
