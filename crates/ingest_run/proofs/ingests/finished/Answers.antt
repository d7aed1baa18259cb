use Rattle.std.proofs.Common.{Ok, Err, List, subst}
use Rattle.update_core.specs.declared.appends.FeedAppend.{FeedAppend}
use Rattle.driving.specs.Goings.{Goes}
use Rattle.ingest_run.specs.Ends.{Finishes}
use Rattle.ingest_run.proofs.IngestLaws.{ends_in_text}
use Rattle.ingest_run.proofs.ingests.finished.Goals as goal

pub returns-in-Ok-clause-told : goal.returns-in-Ok-clause-told
returns-in-Ok-clause-told g c = λ reader.
    let shard = c.args.place.shard in
    let a = g.S.Store.history c.args.end.store in
    let d = g.S.Store.history c.run-done.new.port.store in
    let m = c.args.plan.now.compactors in
    let qs = c.args.queries.now in
    let t = c.new-text.result.items in
    let u = c.run-done.new.text.items in
    ends_in_text shard a d reader m c.args.plan.now.appends qs t u c.new-text.ensures.items
    (subst (λ (appends : List FeedAppend). Goes shard a d (Finishes shard reader appends qs m t u (Ok tt))) c.as_slice.ensures
    (c.in-Ok.ensures.told reader))

pub returns-clause-told : goal.returns-clause-told
returns-clause-told g c = λ reader.
    let shard = c.args.place.shard in
    let a = g.S.Store.history c.args.end.store in
    let d = g.S.Store.history c.run-done.new.port.store in
    let m = c.args.plan.now.compactors in
    let qs = c.args.queries.now in
    let t = c.new-text.result.items in
    let u = c.run-done.new.text.items in
    subst (λ (appends : List FeedAppend). Goes shard a d (Finishes shard reader appends qs m t u (Err c.in-Err.fault))) c.as_slice.ensures
    (c.in-Err.ensures.told reader)
