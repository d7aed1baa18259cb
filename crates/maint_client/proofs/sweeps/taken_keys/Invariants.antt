use Rattle.std.proofs.Common.{◌≡◌, drop, []}
use Rattle.maint_client.specs.Sweeping.{taken_after}
use Rattle.maint_client.proofs.sweeps.taken_keys.Given as goal

abbrev pub invariant-loop-version : goal.invariant-loop-version
invariant-loop-version l = record {
  left : taken_after l.shard l.top l.keys (drop l.version-index l.versions) ≡ taken_after l.shard l.top [] l.versions;
}
