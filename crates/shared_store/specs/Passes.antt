-- A pass of a shared store, and a port with its pass.
use Rattle.std.specs.Prelude.{◌≡◌, ℕ, List, map, Option, Some, None}
use Rattle.atomic_table.specs.Seated.{TableId}
use Rattle.turnstile.specs.declared.views.View.{View}
use Rattle.turnstile.specs.declared.passes.Pass.{Pass}
use Rattle.turnstile.specs.declared.turnstiles.Turnstile.{Turnstile}
use Rattle.turnstile.specs.Rule.{spent_view}
use Rattle.turnstile.specs.Passes.{IsPassOf, view}
use Rattle.store_core.specs.declared.stores.Store.{Ghosts}
use Rattle.store_core.specs.declared.entries.Entry.{Entry}
use Rattle.shared_store.specs.declared.counted_stores.CountedStore.{CountedStore}
use Rattle.shared_store.specs.Trails.{since, entry_client}

module _ {S : Type 0} {G : Ghosts S} where
  -- what a counted store tells
  abbrev pub told_of : CountedStore S G → Option (S × List Entry)
  told_of c = since c.opened.value (G.history c.opened.value) (G.history c.store)

  -- what the pass knows, where there is one
  abbrev pub view_or : Option (Pass (CountedStore S G) S Entry) → View S Entry
  view_or None = spent_view
  view_or (Some p) = view p

  -- there is a pass, and it is this turnstile's
  pub record HasPass (t : Turnstile (CountedStore S G) S Entry) (o : Option (Pass (CountedStore S G) S Entry)) : Type 0 where
    pub pass : Pass (CountedStore S G) S Entry
    pub there : o ≡ Some pass
    pub stands : IsPassOf told_of entry_client t pass

-- What no turn changes of a pass: the number, the stock, the share, the numbers that it answers for, and what the store told when it was
-- taken in.
pub record PassKept (S : Type 0) : Type 0 where
  pub number : ℕ
  pub low : ℕ
  pub stock : ℕ
  pub share : ℕ
  pub kin : List ℕ
  pub start : Option (S × List Entry)

-- that of what a pass knows
abbrev pub kept_view : {S : Type 0} → View S Entry → PassKept S
kept_view v = record { number = v.number; low = v.low; stock = v.stock; share = v.share; kin = map (λ k. k.0) v.kin; start = v.start }

-- what contracts see of a port: the table of its turnstile, what its pass knows, and its count of faults
pub record PortValue (S : Type 0) : Type 0 where
  pub table : TableId
  pub known : View S Entry
  pub faults : ℕ

-- what no call of a port changes, which joins and the closing need: the table of its turnstile, and this of its pass
pub record PortKept (S : Type 0) : Type 0 where
  pub table : TableId
  pub pass : PassKept S

-- that of a port
abbrev pub kept_of : {S : Type 0} → PortValue S → PortKept S
kept_of p = record { table = p.table; pass = kept_view p.known }
