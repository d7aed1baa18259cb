use Rattle.std.proofs.Common.{◌≡◌, drop}
use Rattle.appends_core.specs.Feeds.{end_from, end_of_feed}
use Rattle.ingest_run.proofs.bounds.end_of.Given as goal

abbrev pub invariant-loop-append : goal.invariant-loop-append
invariant-loop-append l = end_from l.upper (drop l.append-index l.appends) ≡ end_of_feed l.appends
