use Rattle.std.proofs.Common.{rules}
use denote.Param.{param}
use denote.Param.Send.{IsSync, sendable}
use Rattle.shared_store.specs.contracts.shared_stores.SharedStore.{the_row}
use Rattle.shared_store.proofs.Crossing.{shared_sync}
use Rattle.shared_store.proofs.shared_stores.shares_store.Goals as goal

pub is_sync-requires-sync-T : goal.is_sync-requires-sync-T
is_sync-requires-sync-T g c =
    let whole : IsSync (the_row (param 0 g.row.S) g.S.Store) = shared_sync (param 0 g.row.S) g.S.Store c.type_bounds.send-S in
    search (rules, sendable)
