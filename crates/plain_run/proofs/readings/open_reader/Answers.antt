use Rattle.std.proofs.Common.{sym, subst, ◌∙◌, Result, Ok}
use Rattle.std.proofs.lemmas.Result.{err_from_is_err_and}
use Rattle.read_client.specs.declared.readers.Reader.{Reader}
use Rattle.plain_run.specs.declared.session_faults.SessionFault.{SessionFault}
use Rattle.read_client.specs.Machining.{Ended, kept, machine}
use Rattle.plain_run.specs.Drives.{Driven, Failed}
use Rattle.driving.specs.Goings.{Goes}
use Rattle.plain_run.proofs.SessionLaws.{JoinsReader, opens_reader}
use Rattle.plain_run.proofs.readings.open_reader.Goals as goal

pub returns-in_err-answer-clause-told : goal.returns-in_err-answer-clause-told
returns-in_err-answer-clause-told g c =
    let a = g.S.Store.history c.args.port.now.store in
    let d = g.S.Store.history c.drive_reader.new.port.store in
    let p = err_from_is_err_and c.from_residual.result c.from_residual.ensures.1 in
    rw p.1 (subst (λ (e : SessionFault). Goes c.args.place.shard a d (λ list start es now. Failed c.args.place.shard e start es now))
    (sym p.2) c.in_err-answer.ensures.told)

pub returns-in_err-reader_joined-clause-told : goal.returns-in_err-reader_joined-clause-told
returns-in_err-reader_joined-clause-told g c =
    let a = g.S.Store.history c.args.port.now.store in
    let d = g.S.Store.history c.drive_reader.new.port.store in
    let new = c.drive_reader.new.reader in
    let answer = c.in_ok-answer.answer in
    let p = err_from_is_err_and c.from_residual-in_err-reader_joined.result c.from_residual-in_err-reader_joined.ensures.1 in
    let told = subst (λ (w : Reader). Goes c.args.place.shard a d (Driven c.args.place.shard machine c.args.place.reader (kept w)
    (Ok answer))) c.open-reader.ensures.opened c.in_ok-answer.ensures.told in
    let over = subst (λ (w : Reader). Ended (kept w) answer new) c.open-reader.ensures.opened c.in_ok-answer.ensures.ended in
    let joined = subst (λ (r : Result Unit SessionFault). Goes c.args.place.shard a d (JoinsReader c.args.place.shard r new))
    (sym c.reader_joined.ensures ∙ c.in_err-reader_joined.was) (opens_reader c.args.place.shard c.args.place.reader a d c.args.now 1000000 new answer over.member told) in
    rw p.1 (subst (λ (e : SessionFault). Goes c.args.place.shard a d (λ list start es now. Failed c.args.place.shard e start es now)) (sym p.2) joined)

pub returns-clause-told : goal.returns-clause-told
returns-clause-told g c =
    let a = g.S.Store.history c.args.port.now.store in
    let d = g.S.Store.history c.drive_reader.new.port.store in
    let new = c.drive_reader.new.reader in
    let answer = c.in_ok-answer.answer in
    let told = subst (λ (w : Reader). Goes c.args.place.shard a d (Driven c.args.place.shard machine c.args.place.reader (kept w)
    (Ok answer))) c.open-reader.ensures.opened c.in_ok-answer.ensures.told in
    let over = subst (λ (w : Reader). Ended (kept w) answer new) c.open-reader.ensures.opened c.in_ok-answer.ensures.ended in
    subst (λ (r : Result Unit SessionFault). Goes c.args.place.shard a d (JoinsReader c.args.place.shard r new))
    (sym c.reader_joined.ensures ∙ c.in_ok-reader_joined.was) (opens_reader c.args.place.shard c.args.place.reader a d c.args.now 1000000 new answer over.member told)
