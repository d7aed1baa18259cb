use Rattle.std.proofs.Common.{sym, subst, ◌∙◌}
use Rattle.std.proofs.lemmas.Result.{err_from_is_err_and}
use Rattle.history_core.specs.declared.asked.Asked.TheVariants as asks
use Rattle.state_core.specs.declared.transitions.Transition.TheVariants.{Renew}
use Rattle.plain_run.specs.declared.session_faults.SessionFault.{SessionFault}
use Rattle.plain_run.specs.Answering.{Ready, number_of}
use Rattle.plain_run.specs.Drives.{Failed}
use Rattle.plain_run.specs.Settling.{StaysSettled}
use Rattle.driving.specs.Goings.{Goes}
use Rattle.plain_run.proofs.ReplyLaws.{asked_told, change_begun, on_reply}
use Rattle.plain_run.proofs.TendLaws.{failed_tends, member_renewed, ready_renewed, renew_told, renews}
use Rattle.plain_run.proofs.sessions.Session.renew.Goals as goal

pub returns-in_err-answer-clause-told : goal.returns-in_err-answer-clause-told
returns-in_err-answer-clause-told g c =
    let a = g.S.Store.history c.args.port.now.store in
    let d = g.S.Store.history c.drive_reader.new.port.store in
    let place = c.args.self.now.place in
    let p = err_from_is_err_and c.from_residual-in_err-answer.result c.from_residual-in_err-answer.ensures.1 in
    rw p.1 (failed_tends place a d (number_of c.args.self.now.reader) (StaysSettled place.shard) p.0
    (subst (λ (e : SessionFault). Goes place.shard a d (λ list start es now. Failed place.shard e start es now)) (sym p.2) c.in_err-answer.ensures.told))

pub returns-clause-told : goal.returns-clause-told
returns-clause-told g c =
    let a = g.S.Store.history c.args.port.now.store in
    let d = g.S.Store.history c.drive_reader.new.port.store in
    let s = c.args.self.now in
    let asked = asks.RenewReader s.now in
    let begun = change_begun s.place a s.reader c.begin_renew.new.self asked (λ m. Renew m s.now) c.requires.ready.reader
    c.in_ok-begin_renew.ensures.begins.1 in
    renew_told s.place a d s.reader c.begin_renew.new.self s.reader.listen asked c.in_ok-answer.answer c.reader_renewed.result begun.0
    c.reader_renewed.ensures
    (renews s.place.shard s.place.reader a d begun.0.number s.reader.listen s.now c.in_ok-answer.answer
    (asked_told s.place a d s.reader c.begin_renew.new.self s.reader.listen asked (Renew begun.0.number s.now) c.in_ok-answer.answer begun.0
    begun.1 c.in_ok-answer.ensures.told))

pub returns-clause-ready : goal.returns-clause-ready
returns-clause-ready g c =
    let a = g.S.Store.history c.args.port.now.store in
    let d = g.S.Store.history c.drive_reader.new.port.store in
    let s = c.args.self.now in
    let asked = asks.RenewReader s.now in
    let begun = change_begun s.place a s.reader c.begin_renew.new.self asked (λ m. Renew m s.now) c.requires.ready.reader
    c.in_ok-begin_renew.ensures.begins.1 in
    on_reply c.reader_renewed.result (Ready d (record { place = s.place; writer = s.writer; reader = c.drive_reader.new.reader; now = s.now; next = s.next })) (λ done is.
    ready_renewed s.place s.now s.next a d s.writer s.reader c.begin_renew.new.self c.drive_reader.new.reader s.reader.listen asked
    c.in_ok-answer.answer done c.requires.ready begun.0 c.in_ok-answer.ensures.by c.in_ok-answer.ensures.ended c.drive_reader.ensures.sound
    c.in_ok-answer.ensures.follows (sym c.reader_renewed.ensures ∙ is))
