use Rattle.std.proofs.Common.{◌≡◌, ◌-◌, ◌++◌, []}
use Rattle.state_core.specs.States.{keys_of}
use Rattle.state_core.specs.Drafts.{drafted}
use Rattle.version_codec.specs.Reading.{keys_at}
use Rattle.version_codec.proofs.batch_fields.next_keys.Given as goal

abbrev pub invariant-loop : goal.invariant-loop
invariant-loop l = record {
  read : keys_at l.total (drafted l.draft) l.keys (l.count - l.counter) l.rest ≡ keys_at l.total (drafted l.draft) [] l.count l.bytes;
  seen : l.seen ≡ keys_of l.draft.spine ++ l.keys;
}
