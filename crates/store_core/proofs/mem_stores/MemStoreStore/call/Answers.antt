use Rattle.std.proofs.Common.{sym, ap, subst, ◌∙◌}
use Rattle.store_core.specs.Contents.{stored_of}
use Rattle.store_core.specs.Histories.{replay, IsReplyTo, after_outcome, entry_of}
use Rattle.store_core.proofs.HistoryLaws.{replay-push, shaped}
use Rattle.store_core.proofs.mem_stores.MemStoreStore.call.Goals as goal

pub invariant_of-self-in-Ok : goal.invariant_of-self-in-Ok
invariant_of-self-in-Ok c =
    let s = c.args.self.now in
    let start = stored_of s.start.value in
    let es = s.trail.items in
    let o = c.outcome_of-outcome.result in
    let e = entry_of c.args.client c.in_ok-copy.copy o in
    record {
      replayed = c.in-Ok.ensures.ok
          ∙ ap (λ t. after_outcome t c.args.call.now o) s.replayed
          ∙ ap (λ call. after_outcome (replay start es) call o) (sym c.in_ok-copy.ensures)
          ∙ sym (replay-push start es e)
          ∙ ap (replay start) (sym c.in_ok-push.ensures.items);
    }

pub returns-in-Ok-clause-shape : goal.returns-in-Ok-clause-shape
returns-in-Ok-clause-shape c = subst (λ r. IsReplyTo c.args.call.now r) (sym c.in-Ok.ensures.reply) (shaped (stored_of c.args.self.now.current) c.args.call.now c.outcome_of-outcome.result)
