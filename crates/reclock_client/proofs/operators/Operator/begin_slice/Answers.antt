use Rattle.std.proofs.Common.{rules, ◌≡◌, Some}
use Rattle.update_core.specs.Updates.{slice_of}
use Rattle.remap_core.specs.Reclocking.{reclocked}
use Rattle.reclock_client.specs.declared.errands.Errand.TheVariants as errands
use Rattle.reclock_client.proofs.Fitting.{slice_fits}
use Rattle.reclock_client.proofs.operators.Operator.begin_slice.Goals as goal

pub append-requires-clause-fits : goal.append-requires-clause-fits
append-requires-clause-fits c =
    let publish : c.args.self.now.course.errand ≡ Some (errands.Publish c.in-Some-Publish.rows) = search rules in
    let are : c.in_ok-rows-in-Some-Publish.rows ≡ slice_of (reclocked c.in-Some-Publish.rows c.args.self.now.course.bindings 0)
    (Some c.args.from) c.args.self.now.course.synced = search rules in
    slice_fits c.args.self.now c.requires.turn c.requires.busy c.args.from c.in-Some-Publish.rows
    c.in_ok-rows-in-Some-Publish.rows publish c.requires.step c.requires.idle are
