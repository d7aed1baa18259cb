use Rattle.machine_core.proofs.Polls.{spared_where}
use Rattle.history_core.specs.declared.collect_answers.CollectAnswer.{CollectAnswer}
use Rattle.maint_client.specs.declared.collectors.Collector.{Collector}
use Rattle.maint_client.specs.Collecting.{collecting}
use Rattle.maint_client.proofs.CollectKeeping.{closed_is, keeps}
use Rattle.maint_client.proofs.laws.collector_follows_past_others_machines.Goals as goal

pub returns : goal.returns
returns g client front now call r c closed = spared_where Collector CollectAnswer collecting keeps client front now call r c
    (closed_is c.asked closed) tt
