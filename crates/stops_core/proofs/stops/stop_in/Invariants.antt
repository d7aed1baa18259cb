use Rattle.std.proofs.Common.{◌≡◌, drop}
use Rattle.stops_core.specs.Stops.{stop_of}
use Rattle.stops_core.proofs.stops.stop_in.Given as goal

abbrev pub invariant-loop-stop : goal.invariant-loop-stop
invariant-loop-stop l = stop_of (drop l.stop-index l.stops) l.worker ≡ stop_of l.stops l.worker
