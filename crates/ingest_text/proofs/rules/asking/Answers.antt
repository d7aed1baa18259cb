use Rattle.std.proofs.Common.{arith}
use Rattle.ingest_text.proofs.Counting.{asked, too_many}
use Rattle.ingest_text.proofs.rules.asking.Goals as goal

pub returns-then-counts-more-gt-MAX_LISTENS : goal.returns-then-counts-more-gt-MAX_LISTENS
returns-then-counts-more-gt-MAX_LISTENS c =
    too_many c.args.feed c.args.counts c.args.query c.listens-more.result c.requires c.listens-more.ensures.count
    c.if-counts-more-gt-MAX_LISTENS.true

pub returns : goal.returns
returns c =
    asked c.args.feed c.args.counts c.args.query c.listens-more.result c.requires c.listens-more.ensures.count c.push.new.self
    (omega (arith, c.if-counts-more-gt-MAX_LISTENS.false)) (omega (arith, c.if-counts.false)) c.in_ok-push.ensures.ok
