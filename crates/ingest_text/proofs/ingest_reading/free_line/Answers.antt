use Rattle.std.proofs.Common.{None}
use Rattle.ingest_text.proofs.Lines.{head_found, no_head}
use Rattle.ingest_text.proofs.ingest_reading.free_line.Goals as goal

pub returns-in-Some : goal.returns-in-Some
returns-in-Some c =
    let head = c.in-Some.ensures in
    head_found (record { feed = c.args.feed; block = None }) c.args.line.now c.in-Some.block head.0 head.1 head.2 c.opening.result
    c.opening.ensures

pub returns-in-None : goal.returns-in-None
returns-in-None c =
    no_head (record { feed = c.args.feed; block = None }) c.args.line.now c.in-None.ensures c.short_line.result c.short_line.ensures
