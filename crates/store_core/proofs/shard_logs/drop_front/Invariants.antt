use Rattle.std.proofs.Common.{◌≡◌, drop}
use Rattle.store_core.proofs.shard_logs.drop_front.Given as goal

abbrev pub invariant-loop : goal.invariant-loop
invariant-loop l = l.versions.items ≡ drop l.counter l.fn.versions.items
