use Rattle.store_file.specs.FileStores.{history_of, is_shut}
use Rattle.persist_app.proofs.DiskEndings.{shut_by}
use Rattle.persist_app.proofs.watching.watch.Goals as goal

pub returns-clause-failed : goal.returns-clause-failed
returns-clause-failed g c =
    let watched = c.persist_top-status.result.store in
    λ six. shut_by (is_shut watched.store) (history_of watched.store) (c.persist_top-status.ensures.ends.store_failed six) watched.store.done
