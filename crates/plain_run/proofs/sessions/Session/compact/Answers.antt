use Rattle.std.proofs.Common.{Ok, Err, sym, subst, ◌∙◌}
use Rattle.std.proofs.lemmas.Result.{err_from_is_err_and}
use Rattle.feed_text.specs.declared.feed_lines.FeedLine.TheVariants.{Compact}
use Rattle.driving.specs.Goings.{Goes}
use Rattle.plain_run.specs.declared.session_faults.SessionFault.{SessionFault}
use Rattle.plain_run.specs.Answering.{AnswersLine, number_of}
use Rattle.plain_run.specs.Settling.{GetsSettled, StaysSettled}
use Rattle.plain_run.proofs.TendLaws.{compact_answered, compact_failed, tends_as, tends_more}
use Rattle.plain_run.proofs.sessions.Session.compact.Goals as goal

pub returns-in_err-merge-clause-told : goal.returns-in_err-merge-clause-told
returns-in_err-merge-clause-told g c =
    let s = c.args.self.now in
    let a = g.S.Store.history c.args.port.now.store in
    let b = g.S.Store.history c.merge.new.port.store in
    let p = err_from_is_err_and c.from_residual.result c.from_residual.ensures.1 in
    rw p.1 (subst (λ (e : SessionFault). Goes s.place.shard a b (AnswersLine s.place.shard (number_of s.reader) Compact (Err e))) (sym p.2)
    (compact_failed s.place a b (number_of s.reader) (GetsSettled s.place.shard) c.in_err-merge.field-0.0 c.in_err-merge.ensures.told))

pub returns-in_err-renew-clause-told : goal.returns-in_err-renew-clause-told
returns-in_err-renew-clause-told g c =
    let s = c.args.self.now in
    let t = c.merge.new.self in
    let a = g.S.Store.history c.args.port.now.store in
    let b = g.S.Store.history c.merge.new.port.store in
    let d = g.S.Store.history c.renew.new.port.store in
    let gets = GetsSettled s.place.shard in
    let stays = StaysSettled s.place.shard in
    let fault = c.in_err-renew.field-0.0 in
    let p = err_from_is_err_and c.from_residual-in_err-renew.result c.from_residual-in_err-renew.ensures.1 in
    let told = tends_more s.place a b d (number_of s.reader) gets stays gets (Err fault) (λ x y z f h. h f)
    c.in_ok-merge.ensures.told
    (tends_as s.place t.place b d s.reader t.reader (Err fault) c.in_ok-merge.ensures.place c.in_ok-merge.ensures.member c.in_err-renew.ensures.told) in
    rw p.1 (subst (λ (e : SessionFault). Goes s.place.shard a d (AnswersLine s.place.shard (number_of s.reader) Compact (Err e))) (sym p.2)
    (compact_failed s.place a d (number_of s.reader) gets fault told))

pub returns-in_err-collect-clause-told : goal.returns-in_err-collect-clause-told
returns-in_err-collect-clause-told g c =
    let s = c.args.self.now in
    let t = c.merge.new.self in
    let u = c.renew.new.self in
    let a = g.S.Store.history c.args.port.now.store in
    let b = g.S.Store.history c.merge.new.port.store in
    let d = g.S.Store.history c.renew.new.port.store in
    let e = g.S.Store.history c.collect.new.port.store in
    let gets = GetsSettled s.place.shard in
    let stays = StaysSettled s.place.shard in
    let fault = c.in_err-collect.field-0.0 in
    let p = err_from_is_err_and c.from_residual-in_err-collect.result c.from_residual-in_err-collect.ensures.1 in
    let first = tends_more s.place a b d (number_of s.reader) gets stays gets (Ok tt) (λ x y z f h. h f) c.in_ok-merge.ensures.told
    (tends_as s.place t.place b d s.reader t.reader (Ok tt) c.in_ok-merge.ensures.place c.in_ok-merge.ensures.member c.in_ok-renew.ensures.told) in
    let told = tends_more s.place a d e (number_of s.reader) gets stays gets (Err fault) (λ x y z f h. h f) first
    (tends_as s.place u.place d e s.reader u.reader (Err fault) (c.in_ok-renew.ensures.place ∙ c.in_ok-merge.ensures.place)
    (c.in_ok-renew.ensures.member ∙ c.in_ok-merge.ensures.member) c.in_err-collect.ensures.told) in
    rw p.1 (subst (λ (x : SessionFault). Goes s.place.shard a e (AnswersLine s.place.shard (number_of s.reader) Compact (Err x))) (sym p.2)
    (compact_failed s.place a e (number_of s.reader) gets fault told))

pub returns-clause-told : goal.returns-clause-told
returns-clause-told g c =
    let s = c.args.self.now in
    let t = c.merge.new.self in
    let u = c.renew.new.self in
    let a = g.S.Store.history c.args.port.now.store in
    let b = g.S.Store.history c.merge.new.port.store in
    let d = g.S.Store.history c.renew.new.port.store in
    let e = g.S.Store.history c.collect.new.port.store in
    let gets = GetsSettled s.place.shard in
    let stays = StaysSettled s.place.shard in
    let first = tends_more s.place a b d (number_of s.reader) gets stays gets (Ok tt) (λ x y z f h. h f) c.in_ok-merge.ensures.told
    (tends_as s.place t.place b d s.reader t.reader (Ok tt) c.in_ok-merge.ensures.place c.in_ok-merge.ensures.member c.in_ok-renew.ensures.told) in
    compact_answered s.place a e (number_of s.reader)
    (tends_more s.place a d e (number_of s.reader) gets stays gets (Ok tt) (λ x y z f h. h f) first
    (tends_as s.place u.place d e s.reader u.reader (Ok tt) (c.in_ok-renew.ensures.place ∙ c.in_ok-merge.ensures.place)
    (c.in_ok-renew.ensures.member ∙ c.in_ok-merge.ensures.member) c.in_ok-collect.ensures.told))
