use Rattle.ingest_run.proofs.FinishLaws.{merges_all}
use Rattle.ingest_run.proofs.finishing.Finish.merge.Goals as goal

pub returns-clause-told : goal.returns-clause-told
returns-clause-told g c = λ reader.
    merges_all c.args.self.now.place.shard (g.S.Store.history c.args.port.now.store) (g.S.Store.history c.merge_all.new.port.store) reader
    c.args.self.now.compactors c.merge_all.result (c.merge_all.ensures.told reader)
