use Rattle.std.proofs.Common.{ℕ, List, sym, subst}
use Rattle.feed_text.specs.Streams.{TakesAll}
use Rattle.step_run.proofs.TextRead.{steps_from_text}
use Rattle.step_run.proofs.schedule_runs.steps.Goals as goal

pub returns-in-Ok-clause-ends : goal.returns-in-Ok-clause-ends
returns-in-Ok-clause-ends g c =
    let left = g.So.Source.left c.args.source.now in
    let now = g.So.Source.left c.read_up_to.new.source in
    let took = subst (λ (t : List ℕ). TakesAll 16777217 left now t) (sym c.deref.ensures.value) c.in-Ok.ensures.text in
    steps_from_text c.args.shard c.answer_text.result (g.S.Store.history c.args.port.now.store) (g.S.Store.history c.answer_text.new.port.store) left now
    c.deref.result.now _ _ _ _ _ _ took c.answer_text.ensures.ends
