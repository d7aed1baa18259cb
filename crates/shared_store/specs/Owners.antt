-- A shared store with its passes.
use Rattle.turnstile.specs.declared.passes.Pass.{Pass}
use Rattle.turnstile.specs.Passes.{IsPassOf}
use Rattle.store_core.specs.declared.stores.Store.{Ghosts}
use Rattle.store_core.specs.declared.entries.Entry.{Entry}
use Rattle.shared_store.specs.declared.counted_stores.CountedStore.{CountedStore}
use Rattle.shared_store.specs.declared.shared_stores.SharedStore.{SharedStore}
use Rattle.shared_store.specs.Trails.{entry_client}
use Rattle.shared_store.specs.Passes.{told_of}

-- the pass is this store's, and takes no turn
abbrev pub IsPassOfStore : {S : Type 0} {G : Ghosts S} → SharedStore S G → Pass (CountedStore S G) S Entry → Type 0
IsPassOfStore store pass = IsPassOf told_of entry_client store.turnstile pass
