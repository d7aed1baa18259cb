use Rattle.std.proofs.Common.{sym, subst}
use Rattle.feed_text.specs.declared.feed_lines.FeedLine.{FeedLine}
use Rattle.feed_text.specs.declared.feed_lines.FeedLine.TheVariants.{Append, Snapshot, Listen, Since}
use Rattle.plain_run.specs.Answering.{AnswersLine, number_of}
use Rattle.driving.specs.Goings.{Goes}
use Rattle.plain_run.proofs.RunLaws.{line_told}
use Rattle.plain_run.proofs.runs.answer.Goals as goal

pub returns-in-Append-clause-told : goal.returns-in-Append-clause-told
returns-in-Append-clause-told g c =
    subst (λ (line : FeedLine). Goes c.args.session.now.place.shard (g.S.Store.history c.args.port.now.store) (g.S.Store.history c.append.new.port.store) (AnswersLine c.args.session.now.place.shard (number_of c.args.session.now.reader) line c.append.result)) (sym c.in-Append.is)
    (line_told c.args.session.now.place.shard (g.S.Store.history c.args.port.now.store) (g.S.Store.history c.append.new.port.store)
    (number_of c.args.session.now.reader) (Append c.in-Append.append) c.append.result (λ store. tt) c.append.ensures.told)

pub returns-in-Snapshot-clause-told : goal.returns-in-Snapshot-clause-told
returns-in-Snapshot-clause-told g c =
    subst (λ (line : FeedLine). Goes c.args.session.now.place.shard (g.S.Store.history c.args.port.now.store) (g.S.Store.history c.snapshot.new.port.store) (AnswersLine c.args.session.now.place.shard (number_of c.args.session.now.reader) line c.snapshot.result)) (sym c.in-Snapshot.is)
    (line_told c.args.session.now.place.shard (g.S.Store.history c.args.port.now.store) (g.S.Store.history c.snapshot.new.port.store)
    (number_of c.args.session.now.reader) (Snapshot c.in-Snapshot.t) c.snapshot.result (λ store. tt) c.snapshot.ensures.told)

pub returns-in-Listen-clause-told : goal.returns-in-Listen-clause-told
returns-in-Listen-clause-told g c =
    subst (λ (line : FeedLine). Goes c.args.session.now.place.shard (g.S.Store.history c.args.port.now.store) (g.S.Store.history c.listen.new.port.store) (AnswersLine c.args.session.now.place.shard (number_of c.args.session.now.reader) line c.listen.result)) (sym c.in-Listen.is)
    (line_told c.args.session.now.place.shard (g.S.Store.history c.args.port.now.store) (g.S.Store.history c.listen.new.port.store)
    (number_of c.args.session.now.reader) (Listen c.in-Listen.t) c.listen.result (λ store. tt) c.listen.ensures.told)

pub returns-in-Since-clause-told : goal.returns-in-Since-clause-told
returns-in-Since-clause-told g c =
    subst (λ (line : FeedLine). Goes c.args.session.now.place.shard (g.S.Store.history c.args.port.now.store) (g.S.Store.history c.advance.new.port.store) (AnswersLine c.args.session.now.place.shard (number_of c.args.session.now.reader) line c.advance.result)) (sym c.in-Since.is)
    (line_told c.args.session.now.place.shard (g.S.Store.history c.args.port.now.store) (g.S.Store.history c.advance.new.port.store)
    (number_of c.args.session.now.reader) (Since c.in-Since.to) c.advance.result (λ store. tt) c.advance.ensures.told)

pub returns-in-Compact-clause-told : goal.returns-in-Compact-clause-told
returns-in-Compact-clause-told g c =
    subst (λ (line : FeedLine). Goes c.args.session.now.place.shard (g.S.Store.history c.args.port.now.store) (g.S.Store.history c.compact.new.port.store) (AnswersLine c.args.session.now.place.shard (number_of c.args.session.now.reader) line c.compact.result)) (sym c.in-Compact.is) c.compact.ensures.told
