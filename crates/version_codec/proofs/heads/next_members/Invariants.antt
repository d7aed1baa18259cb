use Rattle.std.proofs.Common.{◌≡◌, ◌-◌, ◌+◌, length}
use Rattle.state_core.specs.Drafts.{drafted}
use Rattle.version_codec.specs.Reading.{members_at}
use Rattle.version_codec.proofs.heads.next_members.Given as goal

abbrev pub invariant-loop : goal.invariant-loop
invariant-loop l = record {
  read : members_at l.total (drafted l.draft) (l.count - l.counter) l.rest ≡ members_at l.total (drafted l.fn.draft) l.count l.bytes;
  count : length l.draft.members ≡ length l.fn.draft.members + l.counter;
  spine : l.draft.spine ≡ l.fn.draft.spine;
}
