use Rattle.appends_core.proofs.Ranges.{fit_by}
use Rattle.appends_core.proofs.feed_checks.is_fit.Goals as goal

pub returns-then-rows-le-MAX_ROWS : goal.returns-then-rows-le-MAX_ROWS
returns-then-rows-le-MAX_ROWS c =
    fit_by c.args.append.now c.as_slice-rows.result.now c.are_within.result c.as_slice-rows.ensures c.if-rows-le-MAX_ROWS.true
    c.are_within.ensures
