use Rattle.merge_client.proofs.Begun.{others_where}
use Rattle.merge_client.proofs.laws.follows_past_others.Goals as goal

pub returns : goal.returns
returns c = others_where
