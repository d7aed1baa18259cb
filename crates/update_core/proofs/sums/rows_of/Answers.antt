use Rattle.std.proofs.Common.{rules, ◌≡◌, map, pos, sym, ap, ◌∙◌}
use Rattle.std.proofs.lemmas.List.{map-id}
use Rattle.std.proofs.lemmas.Map.Iter.{iter_end}
use Rattle.std.specs.List.{filter}
use Rattle.update_core.specs.Updates.{row_entry, seen_datum}
use Rattle.update_core.proofs.SumsCounted.{is_kept, kept_same, consolidation_of_sums}
use Rattle.update_core.proofs.sums.rows_of.Goals as goal

pub loop-datum-preserved : goal.loop-datum-preserved
loop-datum-preserved c =
    let none : c.in-Some.diff ≡ pos 0 = search rules in
    kept_same (map row_entry c.loop-datum.out) c.loop-datum.yielded (c.in-Some.datum, c.in-Some.diff) none c.loop-datum.invariant

pub returns : goal.returns
returns c =
    let given = c.into_iter-datum-iterator.ensures.into_iter_gives in
    let all = sym (map-id c.loop-datum.yielded) ∙ (iter_end
    (λ x. x) c.args.sums.entries c.loop-datum.yielded c.into_iter-datum-iterator.result c.loop-datum.datum-iterator c.next.new.self c.next.result
    given.0 c.loop-datum.yielded_by c.in-None.is c.next.ensures.steps).0 in
    consolidation_of_sums c.args.sums.entries (map row_entry c.loop-datum.out) given.5 (c.loop-datum.invariant
    ∙ ap (λ es. filter is_kept (map seen_datum es)) all)
