use Rattle.std.proofs.Common.{sym, subst, ◌∙◌, Result, Ok}
use Rattle.std.proofs.lemmas.Result.{err_from_is_err_and}
use Rattle.write_client.specs.declared.writers.Writer.{Writer}
use Rattle.plain_run.specs.declared.session_faults.SessionFault.{SessionFault}
use Rattle.plain_run.specs.Answering.{OpensWriter}
use Rattle.write_client.specs.Machining.{kept, machine}
use Rattle.plain_run.specs.Drives.{Driven, Failed}
use Rattle.driving.specs.Goings.{Goes}
use Rattle.plain_run.proofs.SessionLaws.{opens_writer}
use Rattle.plain_run.proofs.sessions.open_writer.Goals as goal

pub returns-in_err-answer-clause-told : goal.returns-in_err-answer-clause-told
returns-in_err-answer-clause-told g c =
    let a = g.S.Store.history c.args.port.now.store in
    let d = g.S.Store.history c.drive_writer.new.port.store in
    let p = err_from_is_err_and c.from_residual.result c.from_residual.ensures.1 in
    rw p.1 (subst (λ (e : SessionFault). Goes c.args.place.shard a d (λ list start es now. Failed c.args.place.shard e start es now))
    (sym p.2) c.in_err-answer.ensures.told)

pub returns-in_err-writer_joined-clause-told : goal.returns-in_err-writer_joined-clause-told
returns-in_err-writer_joined-clause-told g c =
    let a = g.S.Store.history c.args.port.now.store in
    let d = g.S.Store.history c.drive_writer.new.port.store in
    let p = err_from_is_err_and c.from_residual-in_err-writer_joined.result c.from_residual-in_err-writer_joined.ensures.1 in
    let told = subst (λ (w : Writer). Goes c.args.place.shard a d (Driven c.args.place.shard machine c.args.place.writer (kept w)
    (Ok c.in_ok-answer.answer))) c.open-writer.ensures.opened c.in_ok-answer.ensures.told in
    let joined = subst (λ (r : Result Unit SessionFault). Goes c.args.place.shard a d (OpensWriter c.args.place.shard {A = Unit {0}} r))
    (sym c.writer_joined.ensures ∙ c.in_err-writer_joined.was) (opens_writer c.args.place.shard c.args.place.writer a d c.in_ok-answer.answer told) in
    rw p.1 (subst (λ (e : SessionFault). Goes c.args.place.shard a d (λ list start es now. Failed c.args.place.shard e start es now)) (sym p.2) joined)

pub returns-clause-told : goal.returns-clause-told
returns-clause-told g c =
    let a = g.S.Store.history c.args.port.now.store in
    let d = g.S.Store.history c.drive_writer.new.port.store in
    let told = subst (λ (w : Writer). Goes c.args.place.shard a d (Driven c.args.place.shard machine c.args.place.writer (kept w)
    (Ok c.in_ok-answer.answer))) c.open-writer.ensures.opened c.in_ok-answer.ensures.told in
    subst (λ (r : Result Unit SessionFault). Goes c.args.place.shard a d (OpensWriter c.args.place.shard {A = Unit {0}} r))
    (sym c.writer_joined.ensures ∙ c.in_ok-writer_joined.was) (opens_writer c.args.place.shard c.args.place.writer a d c.in_ok-answer.answer told)
