use Rattle.std.proofs.Common.{sym, ◌∙◌, ◌++◌}
use Rattle.remap_core.specs.Reclocking.{update_of, bound}
use Rattle.remap_core.proofs.ReclockLaws.{bound-take}
use Rattle.remap_core.proofs.reclocking.bound_rows.Goals as goal

pub loop-row-init : goal.loop-row-init
unfolding bound
loop-row-init c = c.new-out.ensures

pub loop-row-preserved : goal.loop-row-preserved
loop-row-preserved c =
    c.in_ok-put.ensures
    ∙ (λ i. c.loop-row.invariant i ++ update_of c.row-item.result c.args.since (c.reclock-time.ensures i))
    ∙ sym (bound-take c.args.rows.now c.loop-row.row-index c.row-item.result c.args.bindings.now c.args.since
    c.loop-row-test.true c.row-item.is)
