use Rattle.std.proofs.Common.{◌≡◌, ◌-◌}
use Rattle.spine_core.specs.Spines.{rows_of}
use Rattle.state_core.specs.States.{keys_of}
use Rattle.state_core.specs.Drafts.{drafted}
use Rattle.version_codec.specs.Reading.{batches_at}
use Rattle.version_codec.proofs.batch_fields.next_batches.Given as goal

abbrev pub invariant-loop-i : goal.invariant-loop-i
invariant-loop-i l = record {
  read : batches_at l.total (drafted l.draft) (l.count - l.i) l.rest ≡ batches_at l.total (drafted l.fn.draft) l.count l.bytes;
  left : l.left ≡ l.draft.weight - rows_of l.draft.spine;
  seen : l.seen ≡ keys_of l.draft.spine;
}
