use Rattle.std.proofs.Common.{sym, subst, Ok}
use Rattle.std.proofs.lemmas.Result.{err_from_is_err_and}
use Rattle.plain_run.specs.declared.session_faults.SessionFault.{SessionFault}
use Rattle.plain_run.specs.Answering.{OpensWriter}
use Rattle.plain_run.specs.Drives.{Failed}
use Rattle.driving.specs.Goings.{Goes}
use Rattle.plain_run.proofs.ReplyLaws.{failed_more, opens_both, ready_both}
use Rattle.plain_run.proofs.sessions.Session.open.Goals as goal

pub returns-in_err-writer-clause-told : goal.returns-in_err-writer-clause-told
returns-in_err-writer-clause-told g c =
    let a = g.S.Store.history c.args.port.now.store in
    let b = g.S.Store.history c.open_writer.new.port.store in
    let p = err_from_is_err_and c.from_residual.result c.from_residual.ensures.1 in
    rw p.1 (subst (λ (e : SessionFault). Goes c.args.place.shard a b (λ list start es now. Failed c.args.place.shard e start es now))
    (sym p.2) c.in_err-writer.ensures.told)

pub returns-in_err-reader-clause-told : goal.returns-in_err-reader-clause-told
returns-in_err-reader-clause-told g c =
    let a = g.S.Store.history c.args.port.now.store in
    let b = g.S.Store.history c.open_writer.new.port.store in
    let d = g.S.Store.history c.open_reader.new.port.store in
    let p = err_from_is_err_and c.from_residual-in_err-reader.result c.from_residual-in_err-reader.ensures.1 in
    rw p.1 (failed_more c.args.place a b d (OpensWriter c.args.place.shard (Ok c.in_ok-writer.writer)) p.0 c.in_ok-writer.ensures.told
    (subst (λ (e : SessionFault). Goes c.args.place.shard b d (λ list start es now. Failed c.args.place.shard e start es now))
    (sym p.2) c.in_err-reader.ensures.told))

pub returns-clause-told : goal.returns-clause-told
returns-clause-told g c =
    opens_both c.args.place c.args.now (g.S.Store.history c.args.port.now.store) (g.S.Store.history c.open_writer.new.port.store)
    (g.S.Store.history c.open_reader.new.port.store) c.in_ok-writer.writer c.in_ok-reader.reader c.in_ok-writer.ensures.told c.in_ok-reader.ensures.told

pub returns-clause-ready : goal.returns-clause-ready
returns-clause-ready g c =
    ready_both c.args.place c.args.now c.requires.apart (g.S.Store.history c.open_writer.new.port.store)
    (g.S.Store.history c.open_reader.new.port.store) c.in_ok-writer.writer c.in_ok-reader.reader c.in_ok-reader.ensures.by c.in_ok-writer.ensures.ready c.in_ok-reader.ensures.ready
