use Rattle.std.proofs.Common.{◌≡◌, ℕ, List, subst}
use Rattle.driving.specs.Goings.{Goes}
use Rattle.step_run.specs.Executing.{ExecutesTo}
use Rattle.step_run.proofs.executing.execute.Goals as goal

pub returns-clause-told : goal.returns-clause-told
returns-clause-told g c =
    let a = g.S.Store.history c.args.port.now.store in
    let b = g.S.Store.history c.execute_lines.new.port.store in
    let names_are : c.as_slice.result.now ≡ c.args.schedule.names = cc in
    subst (λ (names : List (List ℕ)). Goes c.args.shard a b (ExecutesTo c.args.shard (record { names = names; lines = c.args.schedule.lines })
    (g.Si.Sink.taken c.args.out.now) (g.Si.Sink.taken c.execute_lines.new.out) c.execute_lines.result)) names_are c.execute_lines.ensures.told
