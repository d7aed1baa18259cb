use Rattle.std.proofs.Common.{◌≡◌, ◌++◌, drop}
use Rattle.history_core.specs.Upkeep.{out_numbers}
use Rattle.maint_client.proofs.expiries.out_numbers.Given as goal

abbrev pub invariant-loop-member : goal.invariant-loop-member
invariant-loop-member l = record { left : l.numbers ++ out_numbers l.now (drop l.member-index l.members) ≡ out_numbers l.now l.members }
