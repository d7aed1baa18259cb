use Rattle.std.proofs.Common.{◌+◌, ◌≤◌, inr, refl, sym, ◌∙◌, subst, length, List, arith}
use Rattle.std.specs.Vec.{with_items}
use Rattle.std.proofs.lemmas.List.{with_items_is}
use Rattle.std.specs.List.{AllByRecursion}
use Rattle.driving.specs.Goings.{Goes}
use Rattle.step_run.specs.declared.clients.Client.{Client}
use Rattle.step_run.specs.Clients.{IsSound}
use Rattle.step_run.specs.Lines.{OrFails, StepsAt, sitting}
use Rattle.step_run.proofs.Fitting.{all_sound, all_wait}
use Rattle.step_run.proofs.LineLaws.{head_line, makes_line, on_ok_so, steps_line}
use Rattle.step_run.proofs.lines.execute_line.Goals as goal

pub begin_at-requires : goal.begin_at-requires
begin_at-requires g c =
    let sound = all_sound c.args.shard 0 c.args.scene.now.polls c.args.scene.now.clients.items (g.S.Store.history c.args.port.now.store) c.requires.ready in
    record { sound = subst (λ (cs : List Client). AllByRecursion IsSound cs) (sym c.deref_mut.ensures.value) sound }

pub returns-in-Make-clause-told : goal.returns-in-Make-clause-told
returns-in-Make-clause-told g c =
    let a = g.S.Store.history c.args.port.now.store in
    let d = g.S.Store.history c.make_next.new.port.store in
    makes_line c.args.shard c.args.heads a d c.args.line c.in-Make.made (sitting c.args.scene.now)
    (record { clients = c.make_next.new.clients.items; moment = c.args.scene.now.moment }) c.make_next.result c.in-Make.is refl c.make_next.ensures.told

pub returns-in-Step-clause-told : goal.returns-in-Step-clause-told
returns-in-Step-clause-told g c =
    let a = g.S.Store.history c.args.port.now.store in
    let d = g.S.Store.history c.step_at.new.port.store in
    let v = c.args.scene.now.clients in
    let new = c.step_at.new.clients in
    let items = with_items_is v new (c.step_at.ensures.count ∙ c.deref_mut-in-Step.ensures.len) in
    let told = subst (λ (cs : List Client). Goes c.args.shard a d (OrFails c.args.shard (StepsAt c.in-Step.client c.in-Step.polls cs new)
    c.step_at.result)) c.deref_mut-in-Step.ensures.value c.step_at.ensures.told in
    steps_line c.args.shard c.args.heads a d c.args.line c.in-Step.client c.in-Step.polls (sitting c.args.scene.now)
    (record { clients = (with_items v new).items; moment = c.args.scene.now.moment }) c.step_at.result c.in-Step.is refl
    (subst (λ (ds : List Client). Goes c.args.shard a d (OrFails c.args.shard (StepsAt c.in-Step.client c.in-Step.polls v.items ds) c.step_at.result))
    (sym items) told)

pub returns-in-Head-clause-told : goal.returns-in-Head-clause-told
returns-in-Head-clause-told g c =
    let a = g.S.Store.history c.args.port.now.store in
    let d = g.S.Store.history c.head.new.port.store in
    head_line c.args.shard c.args.heads a d c.args.line (sitting c.args.scene.now) (sitting c.args.scene.now) c.head.result c.in-Head.is refl
    c.head.ensures.told

pub returns-in-Head-clause-ready : goal.returns-in-Head-clause-ready
returns-in-Head-clause-ready g c =
    let a = g.S.Store.history c.args.port.now.store in
    let d = g.S.Store.history c.head.new.port.store in
    let high : 0 + length c.args.scene.now.clients.items ≤ c.args.heads = let e = c.requires.heads in omega (arith, e) in
    on_ok_so c.head.result (λ grows. all_wait c.args.shard 0 c.args.heads c.args.scene.now.polls c.args.scene.now.polls c.args.scene.now.clients.items a d
    (inr high) (omega arith) grows c.requires.ready) c.head.ensures.by
