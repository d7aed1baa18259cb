use Rattle.history_core.proofs.laws.lawful_prefix.Goals as goal
use Rattle.history_core.proofs.Prefixes.{prefix_lawful}

pub returns : goal.returns
returns c = prefix_lawful
