use Rattle.std.proofs.Common.{◌≡◌, Err, true, false, subst, sym, ◌∙◌}
use Rattle.std.proofs.lemmas.Result.{err_from_is_err_and}
use Rattle.driving.specs.Goings.{Goes}
use Rattle.ingest_run.specs.declared.faults.IngestFault.{IngestFault}
use Rattle.ingest_run.specs.Ends.{SeesEnd}
use Rattle.ingest_run.proofs.FinishLaws.{seen_end, seen_not, seen_short}
use Rattle.ingest_run.proofs.finishing.Finish.see_end.Goals as goal

pub returns-in_err-extent-clause-told : goal.returns-in_err-extent-clause-told
returns-in_err-extent-clause-told g c = λ reader.
    let shard = c.args.self.now.place.shard in
    let a = g.S.Store.history c.args.port.now.store in
    let d = g.S.Store.history c.look_at.new.port.store in
    let p = err_from_is_err_and c.from_residual.result c.from_residual.ensures.1 in
    rw p.1 (subst (λ (e : IngestFault). Goes shard a d (SeesEnd shard reader c.args.appends.now (Err e))) (sym p.2)
    (seen_not shard a d reader c.args.appends.now c.in_err-extent.field-0.0 c.in_err-extent.ensures.told))

pub returns-then-is_same-clause-told : goal.returns-then-is_same-clause-told
returns-then-is_same-clause-told g c = λ reader.
    seen_end c.args.self.now.place.shard (g.S.Store.history c.args.port.now.store) (g.S.Store.history c.look_at.new.port.store) reader
    c.args.appends.now c.in_ok-extent.extent (c.is_same.ensures.0 c.if-is_same.true ∙ c.end_of.ensures) c.in_ok-extent.ensures.told

pub returns-clause-told : goal.returns-clause-told
returns-clause-told g c = λ reader.
    seen_short c.args.self.now.place.shard (g.S.Store.history c.args.port.now.store) (g.S.Store.history c.look_at.new.port.store) reader
    c.args.appends.now c.in_ok-extent.extent c.args.ends.now c.args.writers c.short_of_end.result c.short_of_end.ensures
    (λ at_end. let same : c.is_same.result ≡ true = c.is_same.ensures.1 (at_end ∙ sym c.end_of.ensures) in
    let bad : false ≡ true = sym c.if-is_same.false ∙ same in cc) c.in_ok-extent.ensures.told
