use Rattle.std.proofs.Common.{◌-◌, ◌<◌, ◌≤◌, vec_len}
use Rattle.feed_text.proofs.Streams.{TakesSoFar}
use Rattle.feed_text.proofs.reading.read_up_to.Given as goal

abbrev pub invariant-loop-text : goal.invariant-loop-text
invariant-loop-text g l = record {
  so_far : TakesSoFar l.limit (g.So.Source.left l.initial.source) (g.So.Source.left l.source) (g.So.Source.reads l.initial.source) (g.So.Source.reads l.source) l.text.items;
  room : 0 < vec_len l.piece;
  later : g.So.Source.faults l.initial.source ≤ g.So.Source.faults l.source;
}

abbrev pub decreases-loop-text : goal.decreases-loop-text
decreases-loop-text g l = l.limit - vec_len l.text
