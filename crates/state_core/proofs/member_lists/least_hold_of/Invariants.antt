use Rattle.std.proofs.Common.{◌≡◌, drop}
use Rattle.state_core.specs.States.{least_hold}
use Rattle.state_core.proofs.member_lists.least_hold_of.Given as goal

abbrev pub invariant-loop-member : goal.invariant-loop-member
invariant-loop-member l = least_hold l.least (drop l.member-index l.members) ≡ least_hold l.top l.members
