use Rattle.std.proofs.Common.{◌∷◌}
use Rattle.stops_text.proofs.StopWords.{never_last, never_on, same_on, told_all}
use Rattle.stops_text.proofs.stop_lists.parse_stops.Goals as goal

pub returns-in_default-next_stop-clause-none : goal.returns-in_default-next_stop-clause-none
returns-in_default-next_stop-clause-none c =
    let cut = c.in-Some.ensures in
    never_on c.args.workers c.ranges.workers.fits (44 ∷ c.args.text.now) c.loop-word.left.now c.loop-word.stops c.loop-word.invariant
    c.in-Some.word.now c.in-Some.after.now cut.0 cut.1 c.in_default-next_stop.ensures

pub loop-word-preserved : goal.loop-word-preserved
loop-word-preserved c =
    let cut = c.in-Some.ensures in
    let next = c.in-Some-next_stop.ensures in
    same_on c.args.workers c.ranges.workers.fits (44 ∷ c.args.text.now) c.loop-word.left.now c.loop-word.stops c.loop-word.invariant
    c.in-Some.word.now c.in-Some.after.now c.in-Some-next_stop.stop c.in_ok-stops.stops cut.0 cut.1 next.0 next.1 c.in_ok-stops.ensures

pub returns-in-None-clause-none : goal.returns-in-None-clause-none
returns-in-None-clause-none c =
    never_last c.args.workers c.ranges.workers.fits (44 ∷ c.args.text.now) c.loop-word.left.now c.loop-word.stops c.loop-word.invariant
    c.in_default.ensures c.in-None.ensures

pub returns-in_ok-stops-in-Some-next_stop-2-clause-some : goal.returns-in_ok-stops-in-Some-next_stop-2-clause-some
returns-in_ok-stops-in-Some-next_stop-2-clause-some c =
    let next = c.in-Some-next_stop-2.ensures in
    told_all c.args.workers c.ranges.workers.fits (44 ∷ c.args.text.now) c.loop-word.left.now c.loop-word.stops c.loop-word.invariant
    c.in-Some-next_stop-2.last c.in_ok-stops-in-Some-next_stop-2.stops next.0 next.1 c.in_ok-stops-in-Some-next_stop-2.ensures
