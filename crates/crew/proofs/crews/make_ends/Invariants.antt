use Rattle.std.proofs.Common.{◌≡◌, vec_len}
use Rattle.crew.proofs.crews.make_ends.Given as goal

abbrev pub invariant-loop : goal.invariant-loop
invariant-loop l = vec_len l.ends ≡ l.counter
