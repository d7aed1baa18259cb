-- What holds of each kind of client, as a machine that is polled line by line.
use Rattle.write_client.specs.Machining as write
use Rattle.write_client.proofs.Machining as write_proofs
use Rattle.read_client.specs.Machining as read
use Rattle.read_client.proofs.Machining as read_proofs
use Rattle.merge_client.specs.Machining as merge
use Rattle.merge_client.proofs.Machining as merge_proofs
use Rattle.maint_client.specs.Collecting as collect
use Rattle.maint_client.proofs.CollectKeeping as collect_proofs
use Rattle.maint_client.specs.Expiring as expire
use Rattle.maint_client.proofs.Keeping as expire_proofs
use Rattle.step_run.specs.Stepping.{Laws}
use Rattle.step_run.proofs.Answering.{collects_end, collects_idle, expires_end, expires_idle, merges_end, merges_idle, reads_end, reads_idle, writes_end, writes_idle}

pub writes : Laws write.machine
writes = record { keeps = write_proofs.keeps; ending = write_proofs.ending; answered = writes_end; idle = writes_idle }

pub reads : Laws read.machine
reads = record { keeps = read_proofs.keeps; ending = read_proofs.ending; answered = reads_end; idle = reads_idle }

pub merges : Laws merge.machine
merges = record { keeps = merge_proofs.keeps; ending = merge_proofs.ending; answered = merges_end; idle = merges_idle }

pub collects : Laws collect.collecting
collects = record { keeps = collect_proofs.keeps; ending = collect_proofs.ending; answered = collects_end; idle = collects_idle }

pub expires : Laws expire.machine
expires = record { keeps = expire_proofs.keeps; ending = expire_proofs.ending; answered = expires_end; idle = expires_idle }
