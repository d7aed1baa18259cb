use Rattle.std.proofs.Common.{◌≡◌, ◌++◌, drop}
use Rattle.state_core.specs.States.{keys_of}
use Rattle.history_core.specs.Questions.{begun_by}
use Rattle.read_client.proofs.questions.keys_begun_by.Given as goal

abbrev pub invariant-loop-batch : goal.invariant-loop-batch
invariant-loop-batch l = l.keys ++ keys_of (begun_by l.t (drop l.batch-index l.batches)) ≡ keys_of (begun_by l.t l.batches)
