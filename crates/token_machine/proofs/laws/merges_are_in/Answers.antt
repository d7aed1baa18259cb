use Rattle.token_machine.proofs.Merges.{merge_in}
use Rattle.token_machine.proofs.laws.merges_are_in.Goals as goal

pub returns : goal.returns
returns c = merge_in
