use Rattle.std.proofs.Common.{◌≡◌, drop}
use Rattle.maint_client.specs.Sweeping.{with_keys}
use Rattle.maint_client.proofs.sweeps.add_keys.Given as goal

abbrev pub invariant-loop-key : goal.invariant-loop-key
invariant-loop-key l = record { left : with_keys l.keys (drop l.key-index l.more) ≡ with_keys l.fn.keys l.more }
