use Rattle.std.proofs.Common.{◌+◌, ap, take, sym, subst, ◌∙◌, refl}
use Rattle.update_core.proofs.SumsCounted.{Counting, counting_counts, counting_passes}
use Rattle.update_core.proofs.sums.sums_until.Goals as goal
use Rattle.update_core.proofs.sums.sums_until.Goals.{then-update-t+in_ok-count, else-update-t}

pub loop-update-preserved : goal.loop-update-preserved
loop-update-preserved c =
    let i = c.loop-update.update-index in
    let us = c.args.rows.now in
    let ms = c.loop-update.sums.entries in
    let u = c.update-item.result in
    elim c.if-update-t.branch [
      | then-update-t+in_ok-count w ↦ subst (Counting c.args.t (take (i + 1) us)) (sym (ap (λ m. m.entries) w.sums-is
          ∙ w.in_ok-count.ensures))
          (counting_counts c.args.t us i ms u u _ c.loop-update-test.true c.update-item.is refl c.requires w.if-update-t.true c.loop-update.invariant)
      | else-update-t w ↦ subst (λ m. Counting c.args.t (take (i + 1) us) m.entries) (sym w.sums-is)
          (counting_passes c.args.t us i ms u u c.loop-update-test.true c.update-item.is w.if-update-t.false c.loop-update.invariant)
    ]
