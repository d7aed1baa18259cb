use Rattle.plain_run.proofs.RunLaws.{stays_lawful}
use Rattle.ingest_command.proofs.FaultEnds.{ending_is, replies_are, told_halted}
use Rattle.ingest_command.proofs.commands.answer_text.Goals as goal

pub returns-in-Ok-reply-clause-replies : goal.returns-in-Ok-reply-clause-replies
returns-in-Ok-reply-clause-replies g c =
    replies_are c.args.shard c.args.size.compactors c.args.text.now c.in-Ok.feed c.in-Ok.ensures.read (g.S.Store.history c.args.store)
    (g.S.Store.history c.ingest-store.result.store) (λ t. t.items) c.ingest-store.result.reply c.in-Ok-reply.text c.in-Ok-reply.is
    c.ingest-store.ensures.told

pub returns-in-Ok-reply-clause-lawful : goal.returns-in-Ok-reply-clause-lawful
returns-in-Ok-reply-clause-lawful g c =
    stays_lawful c.args.shard (g.S.Store.history c.args.store) (g.S.Store.history c.ingest-store.result.store) _ c.ingest-store.ensures.told

pub returns-in-Ok-clause-replies : goal.returns-in-Ok-clause-replies
returns-in-Ok-clause-replies g c =
    ending_is c.args.shard c.args.size.compactors c.args.text.now c.in-Ok.feed c.in-Ok.ensures.read (g.S.Store.history c.args.store)
    (g.S.Store.history c.ingest-store.result.store) (λ t. t.items) c.ingest-store.result.reply c.in-Err.fault c.ending_of.result c.in-Err.is
    c.ending_of.ensures c.ingest-store.ensures.told c.ingest-store.ensures.failed

pub returns-in-Ok-clause-lawful : goal.returns-in-Ok-clause-lawful
returns-in-Ok-clause-lawful g c =
    stays_lawful c.args.shard (g.S.Store.history c.args.store) (g.S.Store.history c.ingest-store.result.store) _ c.ingest-store.ensures.told

pub returns-in-Ok-clause-halted : goal.returns-in-Ok-clause-halted
returns-in-Ok-clause-halted g c =
    told_halted c.args.size (g.S.Store.history c.args.store) (g.S.Store.history c.ingest-store.result.store) c.ingest-store.result.reply
    c.in-Err.fault c.ending_of.result c.in-Err.is c.ending_of.ensures c.ingest-store.ensures.halted
