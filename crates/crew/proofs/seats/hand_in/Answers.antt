use Rattle.crew.proofs.PinSeats.{idle_none}
use Rattle.crew.proofs.seats.hand_in.Goals as goal

pub returns-then-busy-clause-pins : goal.returns-then-busy-clause-pins
returns-then-busy-clause-pins g c = λ plan front worker placed may. idle_none plan front worker c.args.seats.now c.requires.empty
