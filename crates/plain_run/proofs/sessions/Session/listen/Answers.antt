use Rattle.std.proofs.Common.{Result, subst}
use Rattle.std.specs.Prelude.{OnOk}
use Rattle.driving.specs.Goings.{GrowsBy}
use Rattle.feed_text.specs.declared.replies.RunReply.{RunReply}
use Rattle.plain_run.specs.declared.session_faults.SessionFault.{SessionFault}
use Rattle.plain_run.specs.Answering.{ReaderReady, Ready}
use Rattle.plain_run.proofs.ReplyLaws.{on_reply, ready_again}
use Rattle.plain_run.proofs.sessions.Session.listen.Goals as goal

pub returns-clause-ready : goal.returns-clause-ready
returns-clause-ready g c =
    let s = c.args.self.now in
    let a = g.S.Store.history c.args.port.now.store in
    let d = g.S.Store.history c.read_listen.new.port.store in
    let new = c.read_listen.new.reader in
    on_reply c.read_listen.result (Ready d (record { place = s.place; writer = s.writer; reader = new; now = s.now; next = s.next })) (λ r is.
    ready_again s.place s.now s.next a d s.writer s.reader new c.requires.ready
    (subst (λ (q : Result RunReply SessionFault). OnOk q (GrowsBy s.place.reader a d)) is c.read_listen.ensures.by)
    (subst (λ (q : Result RunReply SessionFault). OnOk q (ReaderReady s.place.shard s.place.reader d new)) is c.read_listen.ensures.ready))
