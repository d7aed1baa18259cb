use Rattle.std.proofs.Common.{refl}
use Rattle.step_run.proofs.Answering.{over_closed}
use Rattle.step_run.proofs.makes.expirer.Goals as goal

pub returns-clause-made : goal.returns-clause-made
returns-clause-made c = λ es. record {
  expirer = c.new-expirer.result;
  is = refl;
  idle = c.new-expirer.ensures.idle;
  shard_is = c.new-expirer.ensures.shard;
  none = refl;
  silent = refl;
}

pub returns-clause-fits : goal.returns-clause-fits
returns-clause-fits c = λ client polls front. record {
  shard_is = c.new-expirer.ensures.shard;
  sound = c.new-expirer.ensures.sound;
  follows = c.new-expirer.ensures.follows client front;
  few = λ is. absurd (over_closed c.new-expirer.result.tryer.asked c.new-expirer.ensures.idle is);
  cost = λ is. absurd (over_closed c.new-expirer.result.tryer.asked c.new-expirer.ensures.idle is);
}
