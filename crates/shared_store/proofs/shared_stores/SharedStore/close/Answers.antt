use Rattle.std.proofs.Common.{sym, ap, subst, ◌∙◌}
use Rattle.turnstile.specs.History.{with_more}
use Rattle.turnstile.specs.Passes.{view}
use Rattle.shared_store.specs.Trails.{RoseBy, failed_in, gained}
use Rattle.shared_store.proofs.Failures.{closed_fails}
use Rattle.shared_store.proofs.shared_stores.SharedStore.close.Goals as goal

pub returns-clause-failed : goal.returns-clause-failed
returns-clause-failed g c =
    let closed = c.close.result in
    let history = g.S.Store.history in
    let v = view c.args.pass in
    let opened = closed.opened.value in
    let faults = g.S.Store.faults in
    let rose = subst (λ s. RoseBy (failed_in (gained (history opened) (history closed.store))) (faults opened) (faults s))
    (sym c.into_store.ensures) closed.failed in
    let tells = c.close.ensures.tells ∙ ap (λ o. with_more o v.gain) (sym c.requires.pass.start) in
    closed_fails faults opened (history opened) (history closed.store) v.start v.gain (faults c.into_store.result) rose tells
