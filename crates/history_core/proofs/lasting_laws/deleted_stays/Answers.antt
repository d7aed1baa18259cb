use Rattle.history_core.proofs.Deleting.{deleted_law}
use Rattle.history_core.proofs.lasting_laws.deleted_stays.Goals as goal

pub returns : goal.returns
returns c = deleted_law
