use Rattle.std.proofs.Common.{◌+◌, arith}
use Rattle.stops_core.specs.Stops.{stop_of}
use Rattle.stops_text.proofs.StopWords.{named, no_next, other_next}
use Rattle.stops_text.proofs.stop_lists.next_stop.Goals as goal

pub returns-in-None : goal.returns-in-None
returns-in-None c =
    no_next c.args.workers c.ranges.workers.fits c.args.before.now c.args.word.now c.in-None.ensures

pub returns-then-worker-from : goal.returns-then-worker-from
returns-then-worker-from c =
    let told = c.in-Some.ensures in
    other_next c.args.workers c.ranges.workers.fits c.args.before.now c.args.word.now c.in-Some.worker c.in-Some.calls told.0 told.1 told.2
    (λ h. let few = h.worker in omega (arith, few, c.if-worker-from.true))

pub returns-then-is_some : goal.returns-then-is_some
returns-then-is_some c =
    let told = c.in-Some.ensures in
    other_next c.args.workers c.ranges.workers.fits c.args.before.now c.args.word.now c.in-Some.worker c.in-Some.calls told.0 told.1 told.2
    (λ h. absurd (named (stop_of c.args.before.now c.in-Some.worker) c.stop_of.result c.stop_of.ensures h.fresh c.if-is_some.ensures))
