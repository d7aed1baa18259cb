use Rattle.std.proofs.Common.{refl}
use Rattle.step_run.proofs.Answering.{over_closed}
use Rattle.step_run.proofs.makes.collector.Goals as goal

pub returns-clause-made : goal.returns-clause-made
returns-clause-made c = λ es. record {
  collector = c.new-collector.result;
  is = refl;
  idle = c.new-collector.ensures.idle;
  shard_is = c.new-collector.ensures.shard;
  none = refl;
  silent = refl;
}

pub returns-clause-fits : goal.returns-clause-fits
returns-clause-fits c = λ client polls front. record {
  shard_is = c.new-collector.ensures.shard;
  sound = c.new-collector.ensures.sound;
  follows = c.new-collector.ensures.follows client front;
  few = λ is. absurd (over_closed c.new-collector.result.asked c.new-collector.ensures.idle is);
  cost = λ is. absurd (over_closed c.new-collector.result.asked c.new-collector.ensures.idle is);
}
