use Rattle.std.proofs.Common.{◌≡◌, drop}
use Rattle.std.specs.List.{list_any}
use Rattle.state_core.specs.Steps.{is_out}
use Rattle.state_core.proofs.member_lists.some_is_out.Given as goal

abbrev pub invariant-loop-member : goal.invariant-loop-member
invariant-loop-member l = list_any (is_out l.now) (drop l.member-index l.members) ≡ list_any (is_out l.now) l.members
