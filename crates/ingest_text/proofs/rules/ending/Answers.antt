use Rattle.ingest_text.proofs.Counting.{ended}
use Rattle.ingest_text.proofs.rules.ending.Goals as goal

pub returns : goal.returns
returns c = ended c.args.feed c.args.counts c.args.block c.requires c.push.new.self c.in_ok-push.ensures.ok
