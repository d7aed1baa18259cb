use Rattle.worked_histories.proofs.worked.worked_collects.Goals as goal
use Rattle.worked_histories.proofs.WorkedAccepted.{early_held, late_held, last_alone, early_gone, late_gone, merged_there}

pub returns : goal.returns
returns c = record { early_held = early_held; late_held = late_held; version = last_alone; early = early_gone; late = late_gone; merged = merged_there }
