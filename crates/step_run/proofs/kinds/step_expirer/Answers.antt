use Rattle.std.proofs.Common.{refl, rules}
use Rattle.std.proofs.lemmas.Result.{err_from_is_err_and}
use Rattle.maint_client.specs.Expiring.{machine}
use Rattle.step_run.specs.Sayings.{expire_says}
use Rattle.step_run.proofs.KindLaws.{expires}
use Rattle.step_run.proofs.Polling.{polls_fail, polls_to}
use Rattle.step_run.proofs.kinds.step_expirer.Goals as goal

pub step-requires-clause-keeps : goal.step-requires-clause-keeps
step-requires-clause-keeps g c = expires.keeps

pub step-requires-clause-ending : goal.step-requires-clause-ending
step-requires-clause-ending g c = expires.ending

pub step-requires-clause-answered : goal.step-requires-clause-answered
step-requires-clause-answered g c = expires.answered

pub step-requires-clause-idle : goal.step-requires-clause-idle
step-requires-clause-idle g c = expires.idle

pub returns-in_err-stepped-clause-told : goal.returns-in_err-stepped-clause-told
returns-in_err-stepped-clause-told g c =
    let a = g.S.Store.history c.args.port.now.store in
    let d = g.S.Store.history c.step.new.port.store in
    let p = err_from_is_err_and c.from_residual.result c.from_residual.ensures.1 in
    rw p.1 (polls_fail machine expire_says c.args.shard c.args.port.now.client c.args.polls c.args.tryer.now c.step.new.machine a d
    c.in_err-stepped.field-0.0 p.0 p.2 c.requires.fits.shard_is c.in_err-stepped.ensures.told)

pub returns-clause-told : goal.returns-clause-told
returns-clause-told g c =
    let a = g.S.Store.history c.args.port.now.store in
    let d = g.S.Store.history c.step.new.port.store in
    polls_to machine expire_says c.args.shard c.args.port.now.client c.args.polls c.args.tryer.now c.step.new.machine a d
    c.in_ok-stepped.stepped _ c.requires.fits.shard_is (search rules) refl c.expiry_said.ensures c.in_ok-stepped.ensures.told
