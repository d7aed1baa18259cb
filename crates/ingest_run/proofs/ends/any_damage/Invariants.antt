use Rattle.std.proofs.Common.{◌≡◌, drop}
use Rattle.ingest_run.specs.Verdicts.{any_end, has_found_damage}
use Rattle.ingest_run.proofs.ends.any_damage.Given as goal

abbrev pub invariant-loop-end : goal.invariant-loop-end
invariant-loop-end l = any_end has_found_damage (drop l.end-index l.ends) ≡ any_end has_found_damage l.ends
