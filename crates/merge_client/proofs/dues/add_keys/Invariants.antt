use Rattle.std.proofs.Common.{◌≡◌, ◌++◌, drop}
use Rattle.merge_client.proofs.dues.add_keys.Given as goal

abbrev pub invariant-loop-key : goal.invariant-loop-key
invariant-loop-key l = l.keys ++ drop l.key-index l.key-items ≡ l.initial.keys ++ l.more
