-- A pass and its turnstile.
use Rattle.std.specs.Prelude.{◌≡◌, ℕ, ◌+◌, ◌<◌, ◌≤◌, List, [], length, min, Option, ◌^◌, ◌-◌}
use Rattle.atomic_table.specs.Seated.{TableId}
use Rattle.turnstile.specs.declared.views.View.{View}
use Rattle.turnstile.specs.declared.passes.Pass.{Pass}
use Rattle.turnstile.specs.declared.turnstiles.Turnstile.{Turnstile}
use Rattle.turnstile.specs.History.{IsTold}
use Rattle.turnstile.specs.Rule.{times}
use Rattle.turnstile.specs.Plays.{Credited, seen}

module _ {V B I : Type 0} where
  -- what a pass knows
  abbrev pub view : Pass V B I → View B I
  view p = p.place.me.0

  -- what the value was when the turnstile was made
  abbrev pub first_value : Turnstile V B I → V
  first_value t = t.board.shared.key.value

  -- what a pass carries: the number, the stock and the count of the entries that it has seen
  pub record IsCarried (p : Pass V B I) : Type 0 where
    pub number : p.number ≡ (view p).number
    pub stock : p.stock ≡ (view p).stock
    pub low : 0 < (view p).stock → p.low ≡ (view p).low
    pub top : (view p).low + (view p).stock ≤ 2 ^ 64
    pub count : IsTold (view p).start → p.count ≡ min (length (seen (view p))) (2 ^ 64 - 1)

  -- the table that carries a turnstile
  abbrev pub table_of : Turnstile V B I → TableId
  table_of t = t.board.shared.table_id

  -- the pass is of the turnstile with the table id, round a value that told o at the start, and takes no turn
  pub record IsPassAt (client : I → ℕ) (id : TableId) (o : Option (B × List I)) (p : Pass V B I) : Type 0 where
    pub table : p.place.table_id ≡ id
    pub empty : p.place.me.1 ≡ []
    pub free : (view p).turn ≡ 0
    pub start : (view p).start ≡ o
    pub room : (view p).stock < (view p).share
    pub own : 0 < times (view p).number (view p).kin
    pub credited : Credited client (view p)
    pub carried : IsCarried p

  module _ (told : V → Option (B × List I)) (client : I → ℕ) where
    -- the pass is this turnstile's, and takes no turn
    abbrev pub IsPassOf : Turnstile V B I → Pass V B I → Type 0
    IsPassOf t p = IsPassAt client (table_of t) (told (first_value t)) p
