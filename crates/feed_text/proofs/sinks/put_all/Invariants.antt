use Rattle.std.proofs.Common.{◌≡◌, ◌≤◌, length}
use Rattle.feed_text.proofs.Streams.{GainsBefore}
use Rattle.feed_text.proofs.sinks.put_all.Given as goal

abbrev pub invariant-loop-rest : goal.invariant-loop-rest
invariant-loop-rest g l = record { gained : GainsBefore (g.Si.Sink.taken l.initial.sink) (g.Si.Sink.taken l.sink) l.initial.rest l.rest; sound : g.Si.Sink.faults l.sink ≡ g.Si.Sink.faults l.initial.sink }

abbrev pub decreases-loop-rest : goal.decreases-loop-rest
decreases-loop-rest g l = length l.rest
