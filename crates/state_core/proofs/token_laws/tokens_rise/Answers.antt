use Rattle.state_core.proofs.Tokens.{token_after}
use Rattle.state_core.proofs.token_laws.tokens_rise.Goals as goal

pub returns : goal.returns
returns c = token_after
