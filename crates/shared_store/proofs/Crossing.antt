-- Threads may share a store behind its turnstile where the store may be sent.
use denote.RattleType.{RattleType}
use denote.Param.Send.{IsSend, IsSync, sendable}
use denote.Param.SendFields.{as_row_send, declared_sync, declared_send}
use denote.Struct.Field.{row_field}
use Rattle.store_core.specs.declared.stores.Store.{Ghosts}
use Rattle.store_core.specs.contracts.entries.Entry as entry
use Rattle.turnstile.proofs.turnstiles.Turnstile.TheSendSync as turnstile
use Rattle.shared_store.specs.contracts.counted_stores.CountedStore as counted
use Rattle.shared_store.specs.contracts.counted_stores.CountedStoreGrowing.TheImpl as growing
use Rattle.shared_store.specs.contracts.shared_stores.SharedStore as shared

pub counted_send : (S : RattleType) (g : Ghosts S.Denot) → IsSend S → IsSend (counted.the_row S g)
counted_send S g s = declared_send (counted.the_type S g) (as_row_send (row_field S) s, (search sendable, (search sendable, tt)))

pub shared_sync : (S : RattleType) (g : Ghosts S.Denot) → IsSend S → IsSync (shared.the_row S g)
shared_sync S g s = declared_sync (shared.the_type S g) (turnstile.the_sync (counted.the_row S g) S entry.the_row (growing.ghosts S g growing.no_dict) (counted_send S g s), tt)
