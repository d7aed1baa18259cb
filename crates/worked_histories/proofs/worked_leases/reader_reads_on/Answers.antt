use Rattle.worked_histories.proofs.worked_leases.reader_reads_on.Goals as goal
use Rattle.worked_histories.proofs.WorkedLeases.{reader_read, halfway_stands, collected, late_gone, merged_there, reads_again}
use Rattle.worked_histories.proofs.WorkedLeaseLaws.{reads_on_lawful}

pub returns : goal.returns
returns c = record {
  lawful = reads_on_lawful;
  first = reader_read;
  halfway = halfway_stands;
  collected = collected;
  gone = late_gone;
  there = merged_there;
  again = reads_again;
}
