use Rattle.std.proofs.Common.{◌≡◌, drop}
use Rattle.state_core.specs.States.{least_since}
use Rattle.state_core.proofs.MemberLoops.{lesser}
use Rattle.state_core.proofs.member_lists.least_since_of.Given as goal

abbrev pub invariant-loop-member : goal.invariant-loop-member
invariant-loop-member l = lesser l.least (least_since (drop l.member-index l.members)) ≡ least_since l.members
