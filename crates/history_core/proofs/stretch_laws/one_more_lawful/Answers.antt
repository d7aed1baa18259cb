use Rattle.history_core.proofs.stretch_laws.one_more_lawful.Goals as goal
use Rattle.history_core.proofs.Endings.{one_more_law, one_more_back}

pub returns : goal.returns
returns c = record { oldest_first = one_more_law; newest_first = one_more_back }
