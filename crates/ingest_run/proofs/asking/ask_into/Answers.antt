use Rattle.std.proofs.Common.{Err, subst, sym}
use Rattle.std.proofs.lemmas.Result.{err_from_is_err_and}
use Rattle.driving.specs.Goings.{Goes}
use Rattle.plain_run.specs.declared.session_faults.SessionFault.{SessionFault}
use Rattle.plain_run.specs.Answering.{number_of}
use Rattle.plain_run.specs.PlainRuns.{reply_to}
use Rattle.ingest_run.specs.Ends.{Asks}
use Rattle.ingest_run.proofs.AskLaws.{asked_into, asked_short}
use Rattle.ingest_run.proofs.FaultLaws.{replies_fault}
use Rattle.ingest_run.proofs.asking.ask_into.Goals as goal

pub returns-in_err-reply-clause-told : goal.returns-in_err-reply-clause-told
returns-in_err-reply-clause-told g c =
    let shard = c.args.place.shard in
    let a = g.S.Store.history c.args.port.now.store in
    let d = g.S.Store.history c.ask.new.port.store in
    let n = number_of c.args.reader.now in
    let p = err_from_is_err_and c.from_residual.result c.from_residual.ensures.1 in
    rw p.1 (subst (λ (e : SessionFault). Goes shard a d (Asks shard n c.args.query.now c.args.text.now.items c.args.text.now.items (Err e))) (sym p.2)
    (replies_fault shard a d n (λ view. reply_to view c.args.query.now) (λ view. view) c.in_err-reply.field-0.0 c.in_err-reply.ensures.told))

pub returns-in_err-print_reply-clause-told : goal.returns-in_err-print_reply-clause-told
returns-in_err-print_reply-clause-told g c =
    let shard = c.args.place.shard in
    let a = g.S.Store.history c.args.port.now.store in
    let d = g.S.Store.history c.ask.new.port.store in
    let n = number_of c.args.reader.now in
    let p = err_from_is_err_and c.from_residual-in_err-print_reply.result c.from_residual-in_err-print_reply.ensures.1 in
    rw p.1 (subst (λ (e : SessionFault). Goes shard a d (Asks shard n c.args.query.now c.args.text.now.items c.print_reply.new.out.items (Err e))) (sym p.2)
    (asked_short shard n a d c.args.query.now c.in_ok-reply.reply c.args.text.now.items c.print_reply.new.out.items c.in_ok-reply.ensures.told))

pub returns-clause-told : goal.returns-clause-told
returns-clause-told g c =
    let shard = c.args.place.shard in
    let a = g.S.Store.history c.args.port.now.store in
    let d = g.S.Store.history c.ask.new.port.store in
    let n = number_of c.args.reader.now in
    asked_into shard n a d c.args.query.now c.in_ok-reply.reply c.args.text.now.items c.print_reply.new.out.items
    c.in_ok-print_reply.ensures.ok c.in_ok-reply.ensures.told c.in_ok-reply.ensures.still
