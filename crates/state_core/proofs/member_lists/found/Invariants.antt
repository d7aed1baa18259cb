use Rattle.std.proofs.Common.{◌≡◌, drop}
use Rattle.state_core.specs.Refusals.{member_of}
use Rattle.state_core.proofs.member_lists.found.Given as goal

abbrev pub invariant-loop-member : goal.invariant-loop-member
invariant-loop-member l = member_of l.number (drop l.member-index l.members) ≡ member_of l.number l.members
