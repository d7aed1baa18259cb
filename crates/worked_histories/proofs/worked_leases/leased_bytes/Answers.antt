use Rattle.worked_histories.proofs.worked_leases.leased_bytes.Goals as goal
use Rattle.worked_histories.proofs.WorkedLeaseStates.{reads_renewed, reads_kept, reads_expired}

pub returns : goal.returns
returns c = record { renewed = reads_renewed; kept = reads_kept; expired = reads_expired }
