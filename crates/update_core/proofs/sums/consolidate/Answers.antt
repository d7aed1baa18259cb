use Rattle.std.proofs.Common.{map, sym, subst}
use Rattle.update_core.specs.Totals.{IsConsolidation}
use Rattle.update_core.specs.Updates.{moment_cmp, moment_entry}
use Rattle.update_core.proofs.UpdateLaws.{is_cons}
use Rattle.update_core.proofs.WeightLaws.{weight_of-consolidation}
use Rattle.update_core.proofs.sums.consolidate.Goals as goal

pub returns-clause-exact : goal.returns-clause-exact
returns-clause-exact c =
    is_cons c.args.rows c.from_items.result (subst (λ us. IsConsolidation moment_cmp (map moment_entry us)
    (map moment_entry c.from_items.result)) c.into_items-items.ensures
    (subst (λ vs. IsConsolidation moment_cmp (map moment_entry c.into_items-items.result.items) (map moment_entry vs))
    (sym c.from_items.ensures) c.in_ok-consolidate_in_place.ensures))

pub returns-clause-weight : goal.returns-clause-weight
returns-clause-weight c = weight_of-consolidation c.args.rows c.from_items.result (returns-clause-exact c)
