use Rattle.std.proofs.Common.{sym, subst, ◌∙◌, Result, Ok}
use Rattle.std.proofs.lemmas.Result.{err_from_is_err_and}
use Rattle.merge_client.specs.declared.compactors.Compactor.{Compactor}
use Rattle.merge_client.specs.Machining.{Ended, kept, machine}
use Rattle.plain_run.specs.declared.session_faults.SessionFault.{SessionFault}
use Rattle.plain_run.specs.Compacting.{OpensCompactor}
use Rattle.plain_run.specs.Drives.{Driven, Failed}
use Rattle.driving.specs.Goings.{Goes}
use Rattle.plain_run.proofs.CompactLaws.{opens_compactor}
use Rattle.load_core.specs.Fronts.{Backwards, WhereLawful}
use Rattle.merge_client.specs.Following.{FollowsWhere}
use Rattle.merge_client.specs.Merging.{shard_of}
use Rattle.merge_client.specs.Polling.{CostAt}
use Rattle.merge_client.proofs.Begun.{opened_where}
use Rattle.plain_run.proofs.CompactRuns.{open_cost}
use Rattle.plain_run.proofs.compacting.open_compactor.Goals as goal

pub drive_compactor-requires-clause-follows : goal.drive_compactor-requires-clause-follows
drive_compactor-requires-clause-follows g c =
    subst (λ (w : Compactor). FollowsWhere c.args.client (g.S.Store.history c.args.port.now.store) w) (sym c.open-compactor.ensures.opened)
    (opened_where c.args.client (g.S.Store.history c.args.port.now.store) c.args.shard c.args.now 1000000)

pub drive_compactor-requires-clause-cost : goal.drive_compactor-requires-clause-cost
drive_compactor-requires-clause-cost g c =
    subst (λ (w : Compactor). WhereLawful (shard_of w) (g.S.Store.history c.args.port.now.store) (Backwards (CostAt 3 c.args.client w)))
    (sym c.open-compactor.ensures.opened) (open_cost c.args.client (g.S.Store.history c.args.port.now.store) c.args.shard c.args.now 1000000)

pub returns-in_err-answer-clause-told : goal.returns-in_err-answer-clause-told
returns-in_err-answer-clause-told g c =
    let a = g.S.Store.history c.args.port.now.store in
    let d = g.S.Store.history c.drive_compactor.new.port.store in
    let p = err_from_is_err_and c.from_residual.result c.from_residual.ensures.1 in
    rw p.1 (subst (λ (e : SessionFault). Goes c.args.shard a d (λ list start es now. Failed c.args.shard e start es now))
    (sym p.2) c.in_err-answer.ensures.told)

pub returns-in_err-compactor_joined-clause-told : goal.returns-in_err-compactor_joined-clause-told
returns-in_err-compactor_joined-clause-told g c =
    let a = g.S.Store.history c.args.port.now.store in
    let d = g.S.Store.history c.drive_compactor.new.port.store in
    let new = c.drive_compactor.new.compactor in
    let answer = c.in_ok-answer.answer in
    let p = err_from_is_err_and c.from_residual-in_err-compactor_joined.result c.from_residual-in_err-compactor_joined.ensures.1 in
    let told = subst (λ (w : Compactor). Goes c.args.shard a d (Driven c.args.shard machine c.args.client (kept w)
    (Ok answer))) c.open-compactor.ensures.opened c.in_ok-answer.ensures.told in
    let over = subst (λ (w : Compactor). Ended (kept w) answer new) c.open-compactor.ensures.opened c.in_ok-answer.ensures.ended in
    let joined = subst (λ (r : Result Unit SessionFault). Goes c.args.shard a d (OpensCompactor c.args.shard r new))
    (sym c.compactor_joined.ensures ∙ c.in_err-compactor_joined.was)
    (opens_compactor c.args.shard c.args.client a d c.args.now 1000000 new answer over.member told) in
    rw p.1 (subst (λ (e : SessionFault). Goes c.args.shard a d (λ list start es now. Failed c.args.shard e start es now)) (sym p.2) joined)

pub returns-clause-told : goal.returns-clause-told
returns-clause-told g c =
    let a = g.S.Store.history c.args.port.now.store in
    let d = g.S.Store.history c.drive_compactor.new.port.store in
    let new = c.drive_compactor.new.compactor in
    let answer = c.in_ok-answer.answer in
    let told = subst (λ (w : Compactor). Goes c.args.shard a d (Driven c.args.shard machine c.args.client (kept w)
    (Ok answer))) c.open-compactor.ensures.opened c.in_ok-answer.ensures.told in
    let over = subst (λ (w : Compactor). Ended (kept w) answer new) c.open-compactor.ensures.opened c.in_ok-answer.ensures.ended in
    subst (λ (r : Result Unit SessionFault). Goes c.args.shard a d (OpensCompactor c.args.shard r new))
    (sym c.compactor_joined.ensures ∙ c.in_ok-compactor_joined.was)
    (opens_compactor c.args.shard c.args.client a d c.args.now 1000000 new answer over.member told)
