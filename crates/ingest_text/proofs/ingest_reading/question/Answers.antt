use Rattle.std.proofs.Common.{None}
use Rattle.ingest_text.proofs.Lines.{query_found}
use Rattle.ingest_text.proofs.ingest_reading.question.Goals as goal

pub returns-in-Some : goal.returns-in-Some
returns-in-Some c =
    query_found (record { feed = c.args.feed; block = None }) c.args.line.now c.in-Some.query c.in-Some.ensures.0 c.in-Some.ensures.1
    c.asking.result c.asking.ensures
