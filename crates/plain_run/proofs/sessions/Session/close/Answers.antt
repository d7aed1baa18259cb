use Rattle.std.proofs.Common.{subst, sym}
use Rattle.std.proofs.lemmas.Result.{err_from_is_err_and}
use Rattle.plain_run.specs.declared.session_faults.SessionFault.{SessionFault}
use Rattle.plain_run.specs.Drives.{Failed}
use Rattle.plain_run.specs.declared.places.Place.{Place}
use Rattle.plain_run.specs.Answering.{Closed}
use Rattle.driving.specs.Goings.{Goes}
use Rattle.plain_run.proofs.ReplyLaws.{closes}
use Rattle.plain_run.proofs.sessions.Session.close.Goals as goal

pub returns-clause-told : goal.returns-clause-told
returns-clause-told g c =
    let b = g.S.Store.history c.close_writer.new.port.store in
    let d = g.S.Store.history c.close_reader.new.port.store in
    closes c.args.self.now.place (g.S.Store.history c.args.port.now.store) b d c.close_reader.result c.in_ok-close_writer.ensures.told
    (subst (λ (q : Place). Goes q.shard b d (Closed q.shard c.close_reader.result)) c.in_ok-close_writer.ensures.place
    c.close_reader.ensures.told)

pub returns-in_err-close_writer-clause-told : goal.returns-in_err-close_writer-clause-told
returns-in_err-close_writer-clause-told g c =
    let a = g.S.Store.history c.args.port.now.store in
    let b = g.S.Store.history c.close_writer.new.port.store in
    let here = c.args.self.now.place.shard in
    let p = err_from_is_err_and c.from_residual.result c.from_residual.ensures.1 in
    rw p.1 (subst (λ (e : SessionFault). Goes here a b (λ list start es now. Failed here e start es now)) (sym p.2)
    c.in_err-close_writer.ensures.told)
