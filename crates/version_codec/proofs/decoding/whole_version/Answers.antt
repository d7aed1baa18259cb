use Rattle.std.proofs.Common.{length}
use Rattle.state_core.specs.Drafts.{drafted}
use Rattle.version_codec.proofs.States.{state_took}
use Rattle.version_codec.proofs.decoding.whole_version.Goals as goal

pub of-requires : goal.of-requires
of-requires c =
    (state_took (length c.args.bytes.now) c.args.shard c.args.number c.in_ok-rest-2.rest.now (drafted c.in_ok-draft.draft, c.in_ok-draft.rest.now) c.in_ok-draft.ensures).state
