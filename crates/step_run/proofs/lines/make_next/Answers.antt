use Rattle.std.proofs.Common.{◌≡◌, List, length, sym, ap, subst, ◌∙◌}
use Rattle.std.proofs.lemmas.Result.{err_from_is_err_and}
use Rattle.step_run.specs.declared.clients.Client.{Client}
use Rattle.step_run.specs.declared.step_faults.StepFault.TheVariants as faults
use Rattle.step_run.specs.Clients.{AllFit}
use Rattle.step_run.proofs.Seating.{fault_as, goes_any, next_fits, next_made}
use Rattle.step_run.proofs.lines.make_next.Goals as goal

pub returns-in_err-client-clause-told : goal.returns-in_err-client-clause-told
returns-in_err-client-clause-told g c =
    let a = g.S.Store.history c.args.port.now.store in
    let d = g.S.Store.history c.make.new.port.store in
    let p = err_from_is_err_and c.from_residual.result c.from_residual.ensures.1 in
    rw p.1 (fault_as c.args.shard a d c.in_err-client.field-0.0 p.0 p.2 c.in_err-client.ensures.told)

pub returns-in_err-seat-clause-told : goal.returns-in_err-seat-clause-told
returns-in_err-seat-clause-told g c =
    let a = g.S.Store.history c.args.port.now.store in
    let d = g.S.Store.history c.make.new.port.store in
    let p = err_from_is_err_and c.from_residual-in_err-seat.result c.from_residual-in_err-seat.ensures.1 in
    rw p.1 (fault_as c.args.shard a d faults.Memory p.0 (p.2 ∙ c.in_err-seat.ensures.fault) (goes_any c.args.shard a d _ c.in_ok-client.ensures.told))

pub returns-clause-told : goal.returns-clause-told
returns-clause-told g c =
    let a = g.S.Store.history c.args.port.now.store in
    let d = g.S.Store.history c.make.new.port.store in
    let number : length c.as_slice.result.now ≡ length c.args.clients.now.items = ap (λ (cs : List Client). length cs) c.as_slice.ensures.value in
    next_made c.args.shard c.args.moment c.args.made (length c.as_slice.result.now) c.in_ok-client.field-0 c.args.clients.now.items
    c.seat.new.clients.items a d number c.in_ok-seat.ensures.seated c.in_ok-client.ensures.told

pub returns-clause-fits : goal.returns-clause-fits
returns-clause-fits g c = λ polls f.
    let a = g.S.Store.history c.args.port.now.store in
    let d = g.S.Store.history c.make.new.port.store in
    let number : length c.as_slice.result.now ≡ length c.args.clients.now.items = ap (λ (cs : List Client). length cs) c.as_slice.ensures.value in
    subst (λ (cs : List Client). AllFit c.args.shard polls d 0 cs) (sym c.in_ok-seat.ensures.seated)
    (next_fits c.args.shard (length c.as_slice.result.now) c.in_ok-client.field-0.client c.args.clients.now.items a d number c.in_ok-client.ensures.by
    c.in_ok-client.ensures.fits polls f)
