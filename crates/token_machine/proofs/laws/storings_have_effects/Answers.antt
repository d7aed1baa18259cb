use Rattle.token_machine.proofs.Effects.{storing_effect}
use Rattle.token_machine.proofs.laws.storings_have_effects.Goals as goal

pub returns : goal.returns
returns c = storing_effect
