use Rattle.reclock_client.proofs.KnownLaws.{content_is_known}
use Rattle.reclock_client.proofs.laws.content_is_known.Goals as goal

pub returns : goal.returns
returns c = content_is_known
