use Rattle.std.proofs.Common.{◌≡◌, drop}
use Rattle.step_text.specs.Schedules.{seat_named}
use Rattle.step_text.proofs.seats.seat_of.Given as goal

abbrev pub invariant-loop-client : goal.invariant-loop-client
invariant-loop-client l = seat_named l.name (drop l.client-index l.clients) ≡ seat_named l.name l.clients
