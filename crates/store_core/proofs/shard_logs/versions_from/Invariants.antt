use Rattle.std.proofs.Common.{◌≡◌, ◌+◌, ◌++◌, drop}
use Rattle.store_core.specs.Stores.{numbered}
use Rattle.store_core.proofs.shard_logs.versions_from.Given as goal

abbrev pub invariant-loop-i : goal.invariant-loop-i
invariant-loop-i l =
    l.found ++ numbered (l.first + l.i) (drop l.i l.versions.items) ≡ numbered (l.first + l.start) (drop l.start l.versions.items)
