use Rattle.std.proofs.Common.{◌≡◌, drop}
use Rattle.ingest_run.specs.Verdicts.{any_end, is_memory_end}
use Rattle.ingest_run.proofs.ends.any_memory_end.Given as goal

abbrev pub invariant-loop-end : goal.invariant-loop-end
invariant-loop-end l = any_end is_memory_end (drop l.end-index l.ends) ≡ any_end is_memory_end l.ends
