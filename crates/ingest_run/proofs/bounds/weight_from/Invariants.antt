use Rattle.std.proofs.Common.{◌≡◌, ◌+◌, drop}
use Rattle.appends_core.specs.Feeds.{from_upper, weight_of_all}
use Rattle.ingest_run.proofs.BoundLaws.{left_from}
use Rattle.ingest_run.proofs.bounds.weight_from.Given as goal

abbrev pub invariant-loop-append : goal.invariant-loop-append
invariant-loop-append l =
    l.sum + left_from l.begun l.upper (drop l.append-index l.appends) ≡ weight_of_all (from_upper l.upper l.appends)
