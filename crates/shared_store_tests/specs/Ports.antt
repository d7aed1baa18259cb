-- Ports and passes that go on.
use Rattle.std.specs.Prelude.{◌≡◌}
use Rattle.turnstile.specs.declared.passes.Pass.{Pass}
use Rattle.turnstile.specs.declared.turnstiles.Turnstile.{Turnstile}
use Rattle.turnstile.specs.Passes.{IsPassOf, view, table_of, first_value}
use Rattle.store_core.specs.declared.stores.Store.{Ghosts}
use Rattle.store_core.specs.declared.entries.Entry.{Entry}
use Rattle.shared_store.specs.declared.counted_stores.CountedStore.{CountedStore}
use Rattle.shared_store.specs.Trails.{entry_client}
use Rattle.shared_store.specs.Passes.{told_of, PortValue}

-- the port q is at the turnstile of p, and its pass has the share that it had there
pub record KeepsPass {S : Type 0} (p q : PortValue S) : Type 0 where
  pub table : q.table ≡ p.table
  pub start : q.known.start ≡ p.known.start
  pub share : q.known.share ≡ p.known.share

module _ {S : Type 0} {G : Ghosts S} where
  -- the port has a pass of the turnstile, with the share that p had
  pub record IsPortOf (t : Turnstile (CountedStore S G) S Entry) (p : Pass (CountedStore S G) S Entry) (port : PortValue S) : Type 0 where
    pub table : port.table ≡ table_of t
    pub start : port.known.start ≡ told_of (first_value t)
    pub share : port.known.share ≡ (view p).share

  -- the pass q is the turnstile's, and has the share that p had
  pub record GoesOn (t : Turnstile (CountedStore S G) S Entry) (p q : Pass (CountedStore S G) S Entry) : Type 0 where
    pub is_pass : IsPassOf told_of entry_client t q
    pub share : (view q).share ≡ (view p).share
