use Rattle.std.proofs.Common.{ap, ◌∙◌}
use Rattle.shared_store.specs.Trails.{since}
use Rattle.shared_store.proofs.Failures.{begun_since}
use Rattle.shared_store.proofs.shared_stores.SharedStore.new.Goals as goal

pub returns-in-Ok-clause-start : goal.returns-in-Ok-clause-start
returns-in-Ok-clause-start g c =
    let history = g.S.Store.history in
    let made = c.new.ensures in
    ap (λ v. v.start) c.in-Ok.ensures.first.1
    ∙ (λ i. since (made.opened i) (history (made.opened i)) (history (made.store i)))
    ∙ begun_since c.args.store (history c.args.store)
