use Rattle.std.proofs.Common.{◌≡◌, ◌-◌, []}
use Rattle.version_codec.specs.Reading.{step_keys_at}
use Rattle.version_codec.proofs.steps.next_keys.Given as goal

abbrev pub invariant-loop : goal.invariant-loop
invariant-loop l = step_keys_at l.total l.shard l.keys (l.count - l.counter) l.rest ≡ step_keys_at l.total l.shard [] l.count l.bytes
