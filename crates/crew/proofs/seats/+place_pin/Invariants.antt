use Rattle.std.proofs.Common.{length}
use Rattle.crew.proofs.seats.+place_pin.Given as goal

abbrev pub decreases-place_pin : goal.decreases-place_pin
decreases-place_pin g l = length l.seats.now
