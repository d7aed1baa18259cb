use Rattle.std.proofs.Common.{None}
use Rattle.ingest_text.proofs.Lines.{no_since}
use Rattle.ingest_text.proofs.ingest_reading.short_line.Goals as goal

pub returns-in-None : goal.returns-in-None
returns-in-None c =
    no_since (record { feed = c.args.feed; block = None }) c.args.line.now c.in-None.ensures c.question.result c.question.ensures
