use Rattle.std.proofs.Common.{rules, ◌+◌, ◌<◌, ◌≤◌, length, arith}
use Rattle.std.proofs.lemmas.Result.{err_from_is_err_and}
use Rattle.step_run.proofs.Fitting.{all_more, first_fits, first_worked}
use Rattle.step_run.proofs.Seating.{fault_as, steps_none, steps_one}
use Rattle.step_run.proofs.lines.step_at.Goals as goal

pub returns-then-place-clients-clause-told : goal.returns-then-place-clients-clause-told
returns-then-place-clients-clause-told g c =
    let high : length c.args.clients.now ≤ c.args.number = search rules in
    steps_none c.args.shard c.args.number c.args.polls c.args.clients.now (g.S.Store.history c.args.port.now.store) high

pub returns-then-place-clients-clause-fits : goal.returns-then-place-clients-clause-fits
returns-then-place-clients-clause-fits g c =
    let few : c.args.asked ≤ c.args.asked + c.args.polls = omega arith in
    all_more c.args.shard c.args.asked (c.args.asked + c.args.polls) c.args.clients.now (g.S.Store.history c.args.port.now.store) few c.requires.fits

pub step_client-requires-clause-fits : goal.step_client-requires-clause-fits
step_client-requires-clause-fits g c =
    let less : c.args.number < length c.args.clients.now = search rules in
    first_fits c.args.shard c.args.asked c.args.number c.index-clients-place.result c.args.clients.now (g.S.Store.history c.args.port.now.store) less
    c.requires.fits

pub returns-in_err-stepped-clause-told : goal.returns-in_err-stepped-clause-told
returns-in_err-stepped-clause-told g c =
    let a = g.S.Store.history c.args.port.now.store in
    let d = g.S.Store.history c.step_client.new.port.store in
    let p = err_from_is_err_and c.from_residual.result c.from_residual.ensures.1 in
    rw p.1 (fault_as c.args.shard a d c.in_err-stepped.field-0.0 p.0 p.2 c.in_err-stepped.ensures.told)

pub returns-clause-told : goal.returns-clause-told
returns-clause-told g c =
    let a = g.S.Store.history c.args.port.now.store in
    let d = g.S.Store.history c.step_client.new.port.store in
    let less : c.args.number < length c.args.clients.now = search rules in
    steps_one c.args.shard c.args.number c.args.polls c.index-clients-place.result c.step_client.new.client c.args.clients.now a d
    c.in_ok-stepped.stepped less c.in_ok-stepped.ensures.told

pub returns-clause-fits : goal.returns-clause-fits
returns-clause-fits g c =
    let a = g.S.Store.history c.args.port.now.store in
    let d = g.S.Store.history c.step_client.new.port.store in
    let less : c.args.number < length c.args.clients.now = search rules in
    let few : c.args.asked ≤ c.args.asked + c.args.polls = omega arith in
    first_worked c.args.shard c.args.asked (c.args.asked + c.args.polls) c.args.number c.step_client.new.client c.args.clients.now a d less few
    c.in_ok-stepped.ensures.by c.in_ok-stepped.ensures.fits c.requires.fits
