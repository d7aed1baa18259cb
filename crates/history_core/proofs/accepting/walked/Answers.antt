use Rattle.std.proofs.Common.{◌≡◌, ◌<◌, ◌∙◌, sym, length, arith}
use Rattle.history_core.specs.Walks.{walk_entry}
use Rattle.history_core.specs.WalkViews.{walked_of}
use Rattle.history_core.proofs.Walking.{one_more_entry}
use Rattle.history_core.proofs.accepting.walked.Goals as goal

pub loop-entry-preserved : goal.loop-entry-preserved
loop-entry-preserved c =
    let lt : c.loop-entry.entry-index < length c.args.trail.now = omega arith in
    let made : walked_of c.take.new.self ≡ walk_entry (walked_of c.loop-entry.walk) c.entry-item.result = c.in_ok-take.ensures in
    made ∙ (λ i. walk_entry (c.loop-entry.invariant i) (c.entry-item.is i)) ∙ sym (one_more_entry c.args.start.now c.args.trail.now c.loop-entry.entry-index c.entry-item.result lt)
