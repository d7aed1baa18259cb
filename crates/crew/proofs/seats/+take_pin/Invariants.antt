use Rattle.std.proofs.Common.{length}
use Rattle.crew.proofs.seats.+take_pin.Given as goal

abbrev pub decreases-take_pin : goal.decreases-take_pin
decreases-take_pin g l = length l.seats.now
