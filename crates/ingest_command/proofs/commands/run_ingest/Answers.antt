use Rattle.std.proofs.Common.{ℕ, List, sym, subst}
use Rattle.feed_text.specs.Streams.{TakesAll}
use Rattle.ingest_command.proofs.FaultEnds.{told_in_end}
use Rattle.ingest_command.proofs.FeedEnds.{ends_from}
use Rattle.ingest_command.proofs.commands.run_ingest.Goals as goal

pub returns-in-Ok-clause-ends : goal.returns-in-Ok-clause-ends
returns-in-Ok-clause-ends g c =
    let left = g.So.Source.left c.args.source.now in
    let now = g.So.Source.left c.read_up_to.new.source in
    let took = subst (λ (t : List ℕ). TakesAll 16777217 left now t) (sym c.deref.ensures.value) c.in-Ok.ensures.text in
    ends_from c.args.shard c.args.size.compactors (g.S.Store.history c.args.store) (g.S.Store.history c.answer_text-store.result.store)
    left now c.deref.result.now took _ _ _ _ _ _ _ c.written.result c.answer_text-store.ensures.replies c.written.ensures.writes

pub returns-in-Ok-clause-halted : goal.returns-in-Ok-clause-halted
returns-in-Ok-clause-halted g c =
    told_in_end c.args.size (g.S.Store.history c.args.store) (g.S.Store.history c.answer_text-store.result.store)
    c.answer_text-store.result.reply c.written.result (λ text. text.items) _ _ _ _ c.written.ensures.writes c.answer_text-store.ensures.halted
