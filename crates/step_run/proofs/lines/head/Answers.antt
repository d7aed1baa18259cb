use Rattle.std.proofs.Common.{subst}
use Rattle.store_core.specs.declared.calls.Call.TheVariants as calls
use Rattle.store_core.specs.declared.replies.Reply.{Reply}
use Rattle.store_core.specs.Histories.{Adds}
use Rattle.step_run.proofs.Seating.{head_comes, head_fails}
use Rattle.step_run.proofs.lines.head.Goals as goal

pub returns-in-Version-clause-told : goal.returns-in-Version-clause-told
returns-in-Version-clause-told g c =
    let a = g.S.Store.history c.args.port.now.store in
    let b = g.S.Store.history c.call.new.self in
    head_comes c.args.shard c.args.client a b c.in-Version.last
    (subst (λ (r : Reply). Adds a b c.args.client (calls.Head c.args.shard) r) c.in-Version.is c.in_ok-last.ensures.entry)

pub returns-in-Failed-clause-told : goal.returns-in-Failed-clause-told
returns-in-Failed-clause-told g c =
    let a = g.S.Store.history c.args.port.now.store in
    let b = g.S.Store.history c.call.new.self in
    head_fails c.args.shard c.args.client a b c.in_ok-last.field-0 c.in_ok-last.ensures.entry
