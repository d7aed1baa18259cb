use Rattle.std.proofs.Common.{sym}
use Rattle.crew.proofs.PinSeats.{idle_here}
use Rattle.crew.proofs.seats.+place_pin.Goals as goal

pub returns-then-is_pin-clause-pins : goal.returns-then-is_pin-clause-pins
returns-then-is_pin-clause-pins g t c = λ plan front worker placed may.
    idle_here plan front worker c.args.seats.now c.in-Some.rest.now c.in-Some.first.now c.args.pin c.in-Some.ensures.cases.0
    (sym c.if-is_pin.ensures) c.requires.idle c.requires.empty placed may
