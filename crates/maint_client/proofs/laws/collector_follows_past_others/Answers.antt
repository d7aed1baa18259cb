use Rattle.machine_core.proofs.Polls.{others_where}
use Rattle.history_core.specs.declared.collect_answers.CollectAnswer.{CollectAnswer}
use Rattle.maint_client.specs.declared.collectors.Collector.{Collector}
use Rattle.maint_client.specs.Collecting.{collecting}
use Rattle.maint_client.proofs.CollectKeeping.{keeps}
use Rattle.maint_client.proofs.laws.collector_follows_past_others.Goals as goal

pub returns : goal.returns
returns g client front now c = others_where Collector CollectAnswer collecting keeps client front now c
