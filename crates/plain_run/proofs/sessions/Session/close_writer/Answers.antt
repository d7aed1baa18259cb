use Rattle.std.proofs.Common.{sym, subst}
use Rattle.std.proofs.lemmas.Result.{err_from_is_err_and}
use Rattle.plain_run.specs.declared.session_faults.SessionFault.{SessionFault}
use Rattle.write_client.specs.Machining.{Kept, machine}
use Rattle.driving.specs.Drives.{Answered}
use Rattle.plain_run.specs.Drives.{Failed}
use Rattle.driving.specs.Goings.{Goes}
use Rattle.plain_run.proofs.ReplyLaws.{close_begun, reader_waits}
use Rattle.plain_run.proofs.WriteLaws.{leaves_writer}
use Rattle.plain_run.proofs.sessions.Session.close_writer.Goals as goal

pub returns-in_err-_answer-clause-told : goal.returns-in_err-_answer-clause-told
returns-in_err-_answer-clause-told g c =
    let a = g.S.Store.history c.args.port.now.store in
    let d = g.S.Store.history c.drive_writer.new.port.store in
    let p = err_from_is_err_and c.from_residual-in_err-_answer.result c.from_residual-in_err-_answer.ensures.1 in
    rw p.1 (subst (λ (e : SessionFault). Goes c.args.self.now.place.shard a d (λ list start es now. Failed c.args.self.now.place.shard e start es now))
    (sym p.2) c.in_err-_answer.ensures.told)

pub returns-clause-told : goal.returns-clause-told
returns-clause-told g c =
    let a = g.S.Store.history c.args.port.now.store in
    let d = g.S.Store.history c.drive_writer.new.port.store in
    let begun = close_begun c.args.self.now.place a c.args.self.now.writer c.begin_close.new.self c.requires.ready.writer c.in_ok-begin_close.ensures.begins.1 in
    leaves_writer c.args.self.now.place.shard c.args.self.now.place.writer a d begun.number c.begin_close.new.self.token c.in_ok-_answer._answer
    (subst (λ (k : Kept). Goes c.args.self.now.place.shard a d (Answered machine c.args.self.now.place.writer k c.in_ok-_answer._answer)) begun.kept c.in_ok-_answer.ensures.told)

pub returns-clause-ready : goal.returns-clause-ready
returns-clause-ready g c =
    let a = g.S.Store.history c.args.port.now.store in
    let d = g.S.Store.history c.drive_writer.new.port.store in
    reader_waits c.args.self.now.place c.requires.ready.apart a d c.args.self.now.reader c.in_ok-_answer.ensures.by c.requires.ready.reader
