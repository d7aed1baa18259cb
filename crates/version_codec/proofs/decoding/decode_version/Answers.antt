use Rattle.std.proofs.Common.{Result, subst, arith}
use Rattle.state_core.specs.States.{ShardState}
use Rattle.version_codec.specs.Reading.{Gives}
use Rattle.state_core.specs.declared.transitions.Transition.{Transition}
use Rattle.version_codec.specs.declared.version_faults.VersionFault.{VersionFault}
use Rattle.version_codec.proofs.Decoded.{is_found, is_read}
use Rattle.version_codec.proofs.decoding.decode_version.Goals as goal

pub returns-clause-found : goal.returns-clause-found
returns-clause-found c = is_found c.args.shard c.args.number c.args.bytes.now c.whole_version.result (λ i. omega (arith, c.type_inv.bytes i)) c.whole_version.ensures

pub returns-clause-only : goal.returns-clause-only
returns-clause-only c = λ s x p q v.
    subst (λ (read : Result (ShardState × Transition) VersionFault). Gives (λ y. (y.0, y.1)) c.whole_version.result read) (is_read c.args.shard c.args.number c.args.bytes.now s x p q v) c.whole_version.ensures
