use Rattle.store_core.proofs.HistoryLaws.{shaped}
use Rattle.store_core.proofs.laws.replies_have_kinds.Goals as goal

pub returns : goal.returns
returns c = λ s e. shaped s e.call e.outcome
