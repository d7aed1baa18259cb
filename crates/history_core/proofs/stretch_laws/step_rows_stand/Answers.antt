use Rattle.history_core.proofs.stretch_laws.step_rows_stand.Goals as goal
use Rattle.history_core.proofs.StepStands.{rows_stand_law}

pub returns : goal.returns
returns c = rows_stand_law
