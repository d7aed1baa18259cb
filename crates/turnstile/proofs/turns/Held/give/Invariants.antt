use Rattle.turnstile.specs.Plays.{gained_by}
use Rattle.turnstile.proofs.turns.Held.give.Given as goal

abbrev pub ghosts-count_up : goal.ghosts-count_up
ghosts-count_up g a = record { gained = gained_by g.V.Growing.told g.V.Growing.client a.place.now.me.0 a.value.now }
