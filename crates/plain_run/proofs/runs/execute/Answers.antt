use Rattle.std.proofs.Common.{◌≡◌, ◌≤◌, true, Ok, Err, ap, subst, sym, ◌∙◌, arith}
use Rattle.std.proofs.lemmas.Result.{err_from_is_err_and}
use Rattle.causes.specs.Causes.{Rose}
use Rattle.plain_run.specs.declared.places.Place.{Place}
use Rattle.plain_run.specs.declared.run_faults.RunFault.{RunFault}
use Rattle.plain_run.specs.declared.run_faults.RunFault.TheVariants as runs
use Rattle.plain_run.specs.Answering.{AnswersLines, Closed, Executes, number_of}
use Rattle.plain_run.specs.Drives.{Failed}
use Rattle.driving.specs.Goings.{Goes}
use Rattle.plain_run.specs.PlainRuns.{View, plain_end, plain_run}
use Rattle.plain_run.specs.RunFaults.{fault_of}
use Rattle.plain_run.specs.Sessions.{StartsAt, ViewAt}
use Rattle.plain_run.specs.Settling.{IsSettledIn, ends_compact}
use Rattle.store_core.specs.Newest.{replay_back}
use Rattle.feed_text.specs.Streams.{Gains}
use Rattle.plain_run.proofs.RunLaws.{close_fails, err_same, lines_done, lines_fail, open_fails, run_done, store_fault}
use Rattle.plain_run.proofs.runs.execute.Goals as goal

pub returns-in_err-session-clause-told : goal.returns-in_err-session-clause-told
returns-in_err-session-clause-told g c =
    let a = g.S.Store.history c.args.port.now.store in
    let b = g.S.Store.history c.open.new.port.store in
    let taken = g.Si.Sink.taken c.args.out.now in
    let p = err_from_is_err_and c.from_residual.result c.from_residual.ensures.1 in
    rw p.1 (subst (λ (e : RunFault). Goes c.args.place.shard a b (Executes c.args.place.shard c.args.feed.lines taken taken (Err e))) (sym p.2) (open_fails c.args.place.shard a b c.args.feed.lines taken taken c.in_err-session.field-0.0 c.in_err-session.ensures.told))

pub returns-in_err-answer_lines-clause-told : goal.returns-in_err-answer_lines-clause-told
returns-in_err-answer_lines-clause-told g c =
    let a = g.S.Store.history c.args.port.now.store in
    let b = g.S.Store.history c.open.new.port.store in
    let d = g.S.Store.history c.answer_lines.new.port.store in
    let taken = g.Si.Sink.taken in
    let p = err_from_is_err_and c.from_residual-in_err-answer_lines.result c.from_residual-in_err-answer_lines.ensures.1 in
    rw p.1 (subst (λ (e : RunFault). Goes c.args.place.shard a d (Executes c.args.place.shard c.args.feed.lines (taken c.args.out.now) (taken c.answer_lines.new.out) (Err e))) (sym p.2)
    (lines_fail c.args.place.shard a b d c.in_ok-session.session c.args.feed.lines (taken c.args.out.now) (taken c.answer_lines.new.out) c.in_err-answer_lines.field-0.0 c.in_ok-session.ensures.told
    (subst (λ (q : Place). Goes q.shard b d (AnswersLines q.shard (number_of c.in_ok-session.session.reader) c.args.feed.lines
    (taken c.args.out.now) (taken c.answer_lines.new.out) (Err c.in_err-answer_lines.field-0.0))) c.in_ok-session.ensures.place
    c.in_err-answer_lines.ensures.told)))

pub returns-in_err-close-clause-told : goal.returns-in_err-close-clause-told
returns-in_err-close-clause-told g c =
    let a = g.S.Store.history c.args.port.now.store in
    let b = g.S.Store.history c.open.new.port.store in
    let d = g.S.Store.history c.answer_lines.new.port.store in
    let e = g.S.Store.history c.close.new.port.store in
    let taken = g.Si.Sink.taken in
    let s = c.in_ok-session.session in
    let all = c.args.feed.lines in
    let now = taken c.answer_lines.new.out in
    let done = lines_done c.args.place.shard a b d s all (taken c.args.out.now) now c.in_ok-session.ensures.told
    (subst (λ (q : Place). Goes q.shard b d (AnswersLines q.shard (number_of s.reader) all (taken c.args.out.now) now (Ok tt)))
    c.in_ok-session.ensures.place c.in_ok-answer_lines.ensures.told) in
    let p = err_from_is_err_and c.from_residual-in_err-close.result c.from_residual-in_err-close.ensures.1 in
    rw p.1 (subst (λ (x : RunFault). Goes c.args.place.shard a e (Executes c.args.place.shard all (taken c.args.out.now) now (Err x))) (sym p.2)
    (close_fails c.args.place.shard a d e (λ list start es fs. (view : View) → StartsAt c.args.place.shard list start es view → Gains (taken c.args.out.now) now (plain_run view all) × ViewAt c.args.place.shard list start fs (number_of s.reader) (plain_end view all) × (ends_compact all ≡ true → IsSettledIn (replay_back start fs) c.args.place.shard))
    all (taken c.args.out.now) now c.in_err-close.field-0.0 done
    (subst (λ (q : Place). Goes q.shard d e (λ list start es fs. Failed q.shard c.in_err-close.field-0.0 start es fs))
    (c.in_ok-answer_lines.ensures.place ∙ c.in_ok-session.ensures.place) c.in_err-close.ensures.told)))

pub returns-in_err-close-clause-failed : goal.returns-in_err-close-clause-failed
returns-in_err-close-clause-failed g c =
    λ is. let p = err_from_is_err_and c.from_residual-in_err-close.result c.from_residual-in_err-close.ensures.1 in
    let same : fault_of c.in_err-close.field-0.0 ≡ runs.Store = sym p.2 ∙ err_same c.from_residual-in_err-close.result p.0 runs.Store p.1 is in
    let failed = c.close.ensures.failed (c.in_err-close.was ∙ ap Err (store_fault c.in_err-close.field-0.0 same)) in
    let opened : g.S.Store.faults c.args.port.now.store ≤ g.S.Store.faults c.open.new.port.store = c.open.ensures.later in
    let lines : g.S.Store.faults c.open.new.port.store ≤ g.S.Store.faults c.answer_lines.new.port.store = c.answer_lines.ensures.calls in
    let rose : Rose (g.S.Store.faults c.answer_lines.new.port.store) (g.S.Store.faults c.close.new.port.store) = failed.0 in
    (omega (arith, rose, opened, lines), failed.1)

pub returns-clause-told : goal.returns-clause-told
returns-clause-told g c =
    let a = g.S.Store.history c.args.port.now.store in
    let b = g.S.Store.history c.open.new.port.store in
    let d = g.S.Store.history c.answer_lines.new.port.store in
    let e = g.S.Store.history c.close.new.port.store in
    let taken = g.Si.Sink.taken in
    let s = c.in_ok-session.session in
    let all = c.args.feed.lines in
    let now = taken c.answer_lines.new.out in
    let done = lines_done c.args.place.shard a b d s all (taken c.args.out.now) now c.in_ok-session.ensures.told
    (subst (λ (q : Place). Goes q.shard b d (AnswersLines q.shard (number_of s.reader) all (taken c.args.out.now) now (Ok tt)))
    c.in_ok-session.ensures.place c.in_ok-answer_lines.ensures.told) in
    run_done c.args.place.shard a d e (number_of s.reader) all (taken c.args.out.now) now done
    (subst (λ (q : Place). Goes q.shard d e (Closed q.shard (Ok tt)))
    (c.in_ok-answer_lines.ensures.place ∙ c.in_ok-session.ensures.place) c.in_ok-close.ensures.told)
