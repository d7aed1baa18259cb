use Rattle.persist_app.proofs.TopEndings.{crew_ends}
use Rattle.persist_app.proofs.top.ingested.Goals as goal

pub returns-clause-ends : goal.returns-clause-ends
returns-clause-ends g c =
    let left = g.So.Source.left in
    let reads = g.So.Source.faults in
    let taken = g.Si.Sink.taken in
    let puts = g.Si.Sink.faults in
    let src = c.args.src.now in
    let src_now = c.run_ingest-store.new.source in
    let out = c.args.out.now in
    let out_mid = c.run_ingest-store.new.out in
    let out_now = c.finish_ingest-status.new.out in
    crew_ends c.args.crew (g.S.Store.history c.args.store) (g.S.Store.history c.run_ingest-store.result.store) (left src) (left src_now)
    (reads src) (reads src_now) (taken out) (taken out_mid) (taken out_now) (puts out) (puts out_mid) (puts out_now)
    c.finish_ingest-status.result c.run_ingest-store.ensures.later c.run_ingest-store.result.ending c.run_ingest-store.ensures.ends
    c.run_ingest-store.ensures.halted c.finish_ingest-status.ensures
