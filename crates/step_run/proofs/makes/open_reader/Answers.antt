use Rattle.std.proofs.Common.{Ok, Err, refl, subst}
use Rattle.std.proofs.lemmas.Result.{err_from_is_err_and}
use Rattle.machine_core.specs.Machines.{shard_of}
use Rattle.driving.specs.Drives.{Drove}
use Rattle.driving.specs.Goings.{Goes}
use Rattle.read_client.specs.declared.readers.Reader.{Reader}
use Rattle.read_client.specs.Machining.{Ended, kept, machine}
use Rattle.read_client.specs.Reading as readers
use Rattle.read_client.proofs.Machining.{ending, keeps}
use Rattle.step_run.proofs.Opening.{open_answers, open_fails}
use Rattle.step_run.proofs.Answering.{over_closed}
use Rattle.step_run.proofs.makes.open_reader.Goals as goal

pub drive-requires-clause-keeps : goal.drive-requires-clause-keeps
drive-requires-clause-keeps g c = keeps

pub drive-requires-clause-ending : goal.drive-requires-clause-ending
drive-requires-clause-ending g c = ending

pub returns-in_err-answer-clause-told : goal.returns-in_err-answer-clause-told
returns-in_err-answer-clause-told g c =
    let a = g.S.Store.history c.args.port.now.store in
    let d = g.S.Store.history c.drive.new.port.store in
    let n = c.args.port.now.client in
    let p = err_from_is_err_and c.from_residual.result c.from_residual.ensures.1 in
    let told = subst (λ (w : Reader). Goes (shard_of machine w) a d (Drove machine n (kept w) (Err c.in_err-answer.field-0.0)))
    c.open-reader.ensures.opened c.in_err-answer.ensures.told in
    rw p.1 (open_fails machine n c.args.shard (kept (readers.opened c.args.shard c.args.moment c.args.lease)) refl a d c.in_err-answer.field-0.0 p.0 p.2 told)

pub returns-clause-told : goal.returns-clause-told
returns-clause-told g c =
    let a = g.S.Store.history c.args.port.now.store in
    let d = g.S.Store.history c.drive.new.port.store in
    let n = c.args.port.now.client in
    let answer = c.in_ok-answer.answer in
    let new = c.drive.new.machine in
    let told = subst (λ (w : Reader). Goes (shard_of machine w) a d (Drove machine n (kept w) (Ok answer))) c.open-reader.ensures.opened
    c.in_ok-answer.ensures.told in
    let over = subst (λ (w : Reader). Ended (kept w) answer new) c.open-reader.ensures.opened c.in_ok-answer.ensures.ended in
    open_answers machine n c.args.shard (kept (readers.opened c.args.shard c.args.moment c.args.lease)) refl a d answer _
    (λ list start es now x. record {
      reader = new;
      is = refl;
      answer = answer;
      answered = x;
      ended = over;
      said = c.saying.ensures;
    }) told

pub returns-clause-fits : goal.returns-clause-fits
returns-clause-fits g c = λ polls.
    let n = c.args.port.now.client in
    let answer = c.in_ok-answer.answer in
    let new = c.drive.new.machine in
    let over = subst (λ (w : Reader). Ended (kept w) answer new) c.open-reader.ensures.opened c.in_ok-answer.ensures.ended in
    record {
      shard_is = over.shard;
      sound = c.in_ok-answer.ensures.sound;
      follows = c.in_ok-answer.ensures.follows;
      few = λ is. absurd (over_closed new.asked over.asked is);
      cost = λ is. absurd (over_closed new.asked over.asked is);
    }
