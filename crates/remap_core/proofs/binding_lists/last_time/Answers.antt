use Rattle.remap_core.proofs.RaiseLaws.{time_last}
use Rattle.remap_core.proofs.binding_lists.last_time.Goals as goal

pub returns-in-Some : goal.returns-in-Some
returns-in-Some c = time_last c.args.items.now c.in-Some.last.now c.in-Some.ensures.some
