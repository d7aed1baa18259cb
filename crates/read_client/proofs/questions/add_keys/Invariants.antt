use Rattle.std.proofs.Common.{◌≡◌, ◌++◌, drop}
use Rattle.read_client.proofs.questions.add_keys.Given as goal

abbrev pub invariant-loop-key : goal.invariant-loop-key
invariant-loop-key l = l.keys ++ drop l.key-index l.key-items ≡ l.initial.keys ++ l.more
