use Rattle.std.proofs.Common.{subst, sym}
use Rattle.driving.specs.Goings.{Goes}
use Rattle.feed_text.specs.declared.feed_lines.FeedLine.{FeedLine}
use Rattle.plain_run.specs.Answering.{Replies, number_of}
use Rattle.plain_run.specs.PlainRuns.{reply_to}
use Rattle.ingest_run.proofs.asking.ask.Goals as goal

pub returns-in-Snapshot-clause-told : goal.returns-in-Snapshot-clause-told
returns-in-Snapshot-clause-told g c =
    let a = g.S.Store.history c.args.port.now.store in
    let d = g.S.Store.history c.read_snapshot.new.port.store in
    subst (λ (q : FeedLine). Goes c.args.place.shard a d (Replies c.args.place.shard (number_of c.args.reader.now) (λ view. reply_to view q)
    (λ view. view) c.read_snapshot.result)) (sym c.in-Snapshot.is) c.read_snapshot.ensures.told

pub returns-in-Listen-clause-told : goal.returns-in-Listen-clause-told
returns-in-Listen-clause-told g c =
    let a = g.S.Store.history c.args.port.now.store in
    let d = g.S.Store.history c.read_listen.new.port.store in
    subst (λ (q : FeedLine). Goes c.args.place.shard a d (Replies c.args.place.shard (number_of c.args.reader.now) (λ view. reply_to view q)
    (λ view. view) c.read_listen.result)) (sym c.in-Listen.is) c.read_listen.ensures.told
