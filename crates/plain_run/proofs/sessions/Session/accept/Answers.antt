use Rattle.std.proofs.Common.{sym, subst, ◌∙◌, Result}
use Rattle.std.proofs.lemmas.Result.{err_from_is_err_and}
use Rattle.update_core.specs.Collections.{append_answer, after_append}
use Rattle.update_core.specs.Updates.{weight_of}
use Rattle.feed_text.specs.declared.replies.RunReply.{RunReply}
use Rattle.plain_run.specs.declared.session_faults.SessionFault.{SessionFault}
use Rattle.plain_run.specs.Answering.{Ready, number_of}
use Rattle.write_client.specs.Machining.{Kept, machine}
use Rattle.driving.specs.Drives.{Answered}
use Rattle.plain_run.specs.Drives.{Failed}
use Rattle.driving.specs.Goings.{Goes}
use Rattle.plain_run.specs.PlainRuns.{append_text, view_with}
use Rattle.plain_run.proofs.ReplyLaws.{append_begun, failed_replies, on_reply, ready_written}
use Rattle.plain_run.proofs.WriteLaws.{AnswersAppendOf, appends}
use Rattle.plain_run.proofs.sessions.Session.accept.Goals as goal

pub returns-in_err-answer-clause-told : goal.returns-in_err-answer-clause-told
returns-in_err-answer-clause-told g c =
    let a = g.S.Store.history c.args.port.now.store in
    let d = g.S.Store.history c.drive_writer.new.port.store in
    let x = c.args.append in
    let p = err_from_is_err_and c.from_residual-in_err-answer.result c.from_residual-in_err-answer.ensures.1 in
    rw p.1 (failed_replies c.args.self.now.place a d (number_of c.args.self.now.reader)
    (λ view. append_text (append_answer view.collection x.lower (weight_of x.rows)))
    (λ view. view_with view (after_append view.collection x.rows x.lower x.upper (weight_of x.rows))) p.0
    (subst (λ (e : SessionFault). Goes c.args.self.now.place.shard a d (λ list start es now. Failed c.args.self.now.place.shard e start es now)) (sym p.2) c.in_err-answer.ensures.told))

pub returns-clause-told : goal.returns-clause-told
returns-clause-told g c =
    let a = g.S.Store.history c.args.port.now.store in
    let d = g.S.Store.history c.drive_writer.new.port.store in
    let x = c.args.append in
    let begun = append_begun c.args.self.now.place a c.args.self.now.writer c.begin_append.new.self x.rows x.lower x.upper c.requires.ready.writer c.in_ok-begin_append.ensures.begins.1 in
    subst (λ (r : Result RunReply SessionFault). Goes c.args.self.now.place.shard a d
    (AnswersAppendOf c.args.self.now.place.shard (number_of c.args.self.now.reader) x.rows x.lower x.upper r)) (sym c.reply_written.ensures)
    (appends c.args.self.now.place.shard c.args.self.now.place.writer a d begun.number begun.token begun.parts begun.count begun.weight
    (number_of c.args.self.now.reader) x.rows x.lower x.upper c.in_ok-answer.answer
    (subst (λ (k : Kept). Goes c.args.self.now.place.shard a d (Answered machine c.args.self.now.place.writer k c.in_ok-answer.answer)) begun.kept c.in_ok-answer.ensures.told))

pub returns-clause-ready : goal.returns-clause-ready
returns-clause-ready g c =
    let a = g.S.Store.history c.args.port.now.store in
    let d = g.S.Store.history c.drive_writer.new.port.store in
    let x = c.args.append in
    let begun = append_begun c.args.self.now.place a c.args.self.now.writer c.begin_append.new.self x.rows x.lower x.upper c.requires.ready.writer c.in_ok-begin_append.ensures.begins.1 in
    on_reply c.reply_written.result (Ready d (record { place = c.args.self.now.place; writer = c.drive_writer.new.writer; reader = c.args.self.now.reader; now = c.args.self.now.now; next = c.args.self.now.next })) (λ r is.
    ready_written c.args.self.now.place c.args.self.now.now c.args.self.now.next a d c.args.self.now.writer c.begin_append.new.self c.drive_writer.new.writer c.args.self.now.reader x.rows x.lower x.upper c.in_ok-answer.answer r c.requires.ready begun c.in_ok-answer.ensures.by c.in_ok-answer.ensures.ended c.drive_writer.ensures.sound c.in_ok-answer.ensures.follows (sym c.reply_written.ensures ∙ is))
