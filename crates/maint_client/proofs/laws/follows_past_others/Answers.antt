use Rattle.machine_core.proofs.Polls.{others_where}
use Rattle.try_machine.specs.declared.tryers.Tryer.{Tryer}
use Rattle.history_core.specs.declared.expire_answers.ExpireAnswer.{ExpireAnswer}
use Rattle.maint_client.specs.declared.expiries.Expiry.{Expiry}
use Rattle.maint_client.specs.Expiring.{machine}
use Rattle.maint_client.proofs.Keeping.{keeps}
use Rattle.maint_client.proofs.laws.follows_past_others.Goals as goal

pub returns : goal.returns
returns c client front now x = others_where (Tryer Expiry) ExpireAnswer machine keeps client front now x.tryer
