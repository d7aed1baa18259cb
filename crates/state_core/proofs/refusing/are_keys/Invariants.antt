use Rattle.std.proofs.Common.{◌≡◌, drop}
use Rattle.state_core.specs.Refusals.{are_keys}
use Rattle.state_core.proofs.refusing.are_keys.Given as goal

abbrev pub invariant-loop-i : goal.invariant-loop-i
invariant-loop-i l = are_keys l.shard l.member l.token l.i (drop l.i l.keys) ≡ are_keys l.shard l.member l.token 0 l.keys
