use Rattle.std.proofs.Common.{◌≡◌, ◌*◌, ◌+◌, drop}
use Rattle.version_codec.specs.Reading.{reader_place}
use Rattle.version_codec.proofs.heads.reader_place.Given as goal

abbrev pub invariant-loop-member : goal.invariant-loop-member
invariant-loop-member l = record {
  read : reader_place l.found l.place (drop l.member-index l.members) ≡ reader_place 0 l.start l.members;
  place : l.place ≡ l.start + 49 * l.member-index;
}
