use Rattle.std.proofs.Common.{◌≡◌, drop}
use Rattle.ingest_run.specs.Verdicts.{are_halted}
use Rattle.ingest_run.proofs.ends.are_halted.Given as goal

abbrev pub invariant-loop-end : goal.invariant-loop-end
invariant-loop-end l = are_halted l.left (drop l.end-index l.ends) ≡ are_halted l.fn.count l.ends
