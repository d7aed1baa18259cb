use Rattle.shared_store.proofs.Failures.{call_counts, call_fails}
use Rattle.shared_store.proofs.counted_stores.CountedStore.call.Goals as goal

pub invariant_of-self-2-clause-failed : goal.invariant_of-self-2-clause-failed
invariant_of-self-2-clause-failed g c =
    let was = c.args.self.now in
    let history = g.S.Store.history in
    call_fails (history was.opened.value) (history was.store) (history c.call.new.self) c.args.client c.args.call.now c.in_ok-reply.reply
    (g.S.Store.faults was.opened.value) (g.S.Store.faults was.store) (g.S.Store.faults c.call.new.self)
    was.grown c.in_ok-reply.ensures.entry was.failed c.in_ok-reply.ensures.later c.in_ok-reply.ensures.cause

pub invariant_of-self-2-clause-counted : goal.invariant_of-self-2-clause-counted
invariant_of-self-2-clause-counted g c =
    let was = c.args.self.now in
    let history = g.S.Store.history in
    call_counts (history was.opened.value) (history was.store) (history c.call.new.self) c.args.client c.args.call.now c.in_ok-reply.reply
    was.count c.one_more-self.result was.grown c.in_ok-reply.ensures.entry was.counted c.one_more-self.ensures.counted
