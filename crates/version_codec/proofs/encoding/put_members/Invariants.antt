use Rattle.std.proofs.Common.{◌≡◌, ◌++◌, length, take}
use Rattle.std.specs.Int.{w16, to_be_bytes}
use Rattle.std.specs.List.{flat_map, AllByRecursion}
use Rattle.version_codec.specs.Versions.{member_bytes, MemberFits}
use Rattle.version_codec.proofs.encoding.put_members.Given as goal

abbrev pub invariant-loop-member : goal.invariant-loop-member
invariant-loop-member l = record {
  written : l.out.items ≡ (l.fn.out.items ++ to_be_bytes w16 (length l.members)) ++ flat_map member_bytes (take l.member-index l.members);
  fit : AllByRecursion MemberFits (take l.member-index l.members);
}
