use Rattle.std.proofs.Common.{◌≡◌, ◌++◌, drop}
use Rattle.state_core.specs.States.{keys_of}
use Rattle.history_core.specs.Questions.{ending_past}
use Rattle.read_client.proofs.questions.keys_ending_past.Given as goal

abbrev pub invariant-loop-batch : goal.invariant-loop-batch
invariant-loop-batch l = l.keys ++ keys_of (ending_past l.from (drop l.batch-index l.batches)) ≡ keys_of
    (ending_past l.from l.batches)
