use Rattle.reclock_client.proofs.KnownStays.{known_stays}
use Rattle.reclock_client.proofs.laws.known_stays.Goals as goal

pub returns : goal.returns
returns c = known_stays
