use Rattle.version_codec.proofs.Facts as facts
use Rattle.version_codec.proofs.laws.version_reading.Goals as goal

pub returns : goal.returns
returns c = record {
  state = facts.version_in_state;
  shard = facts.version_in_shard;
  number = facts.version_in_number;
  read = facts.version_in_spelled;
  spelled = facts.version_in_of;
}
