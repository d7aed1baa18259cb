use Rattle.std.proofs.Common.{Option, Ok, Err, ℕ, subst, sym}
use Rattle.std.proofs.lemmas.Result.{err_from_is_err_and}
use Rattle.driving.specs.Goings.{Goes}
use Rattle.plain_run.specs.declared.session_faults.SessionFault.{SessionFault}
use Rattle.plain_run.specs.Answering.{number_of}
use Rattle.ingest_run.specs.Ends.{Advances}
use Rattle.ingest_run.proofs.BeginLaws.{no_since, since_failed, since_taken}
use Rattle.ingest_run.proofs.beginning.take_since.Goals as goal

pub returns-in_default-clause-told : goal.returns-in_default-clause-told
returns-in_default-clause-told g c =
    let a = g.S.Store.history c.args.port.now.store in
    subst (λ (since : Option ℕ). Goes c.args.place.shard a a (Advances c.args.place.shard (number_of c.args.reader.now) since (Ok tt)))
    (sym c.in_default.is) (no_since c.args.place.shard a (number_of c.args.reader.now))

pub returns-in_err-advance_reader-clause-told : goal.returns-in_err-advance_reader-clause-told
returns-in_err-advance_reader-clause-told g c =
    let a = g.S.Store.history c.args.port.now.store in
    let d = g.S.Store.history c.advance_reader.new.port.store in
    let reader = number_of c.args.reader.now in
    let p = err_from_is_err_and c.from_residual.result c.from_residual.ensures.1 in
    rw p.1 (subst (λ (e : SessionFault). Goes c.args.place.shard a d (Advances c.args.place.shard reader c.args.since (Err e))) (sym p.2)
    (since_failed c.args.place.shard a d reader c.in-Some.to c.args.since c.in_err-advance_reader.field-0.0
    c.in_err-advance_reader.ensures.told))

pub returns-clause-told : goal.returns-clause-told
returns-clause-told g c =
    let a = g.S.Store.history c.args.port.now.store in
    let d = g.S.Store.history c.advance_reader.new.port.store in
    let reader = number_of c.args.reader.now in
    subst (λ (since : Option ℕ). Goes c.args.place.shard a d (Advances c.args.place.shard reader since (Ok tt))) (sym c.in-Some.is)
    (since_taken c.args.place.shard a d reader c.in-Some.to c.in_ok-advance_reader.field-0 c.in_ok-advance_reader.ensures.told)
