use Rattle.std.proofs.Common.{◌≡◌, drop}
use Rattle.ingest_run.specs.Bounds.{begins_in}
use Rattle.ingest_run.proofs.bounds.is_begun.Given as goal

abbrev pub invariant-loop-append : goal.invariant-loop-append
invariant-loop-append l = begins_in l.upper (drop l.append-index l.appends) ≡ begins_in l.upper l.appends
