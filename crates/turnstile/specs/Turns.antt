-- A turn of a pass.
use Rattle.std.specs.Prelude.{◌≡◌, ℕ, ◌<◌, List, [], ◌∷◌, Option, None}
use mathlib.Core.List.{IsPrefix}
use Rattle.turnstile.specs.declared.views.View.{View}
use Rattle.turnstile.specs.declared.passes.Pass.{Pass}
use Rattle.turnstile.specs.declared.turnstiles.Turnstile.{Turnstile}
use Rattle.turnstile.specs.declared.turns.Held.{Held}
use Rattle.turnstile.specs.History.{with_more}
use Rattle.turnstile.specs.Rule.{times}
use Rattle.turnstile.specs.Plays.{Credited, turned}
use Rattle.turnstile.specs.Passes.{view, first_value, IsCarried}

module _ {V B I : Type 0} where
  -- what the pass that has the turn knows
  abbrev pub held_view : Held V B I → View B I
  held_view h = view h.pass

  -- the value in hand
  abbrev pub held_value : Held V B I → V
  held_value h = h.value

  -- the turnstile that the turn is of
  abbrev pub held_from : Held V B I → Turnstile V B I
  held_from h = h.turnstile.now

  module _ (told : V → Option (B × List I)) (client : I → ℕ) where
    -- the pass is this turnstile's, and has the turn
    pub record IsHolder (t : Turnstile V B I) (p : Pass V B I) : Type 0 where
      pub table : p.place.table_id ≡ t.board.shared.table_id
      pub empty : p.place.me.1 ≡ (0, None) ∷ []
      pub turn : (view p).turn ≡ 1
      pub start : (view p).start ≡ told (first_value t)
      pub room : (view p).stock < (view p).share
      pub own : 0 < times (view p).number (view p).kin
      pub credited : Credited client (view p)
      pub carried : IsCarried p

    -- the turn's pass is its turnstile's, and has the turn
    abbrev pub IsHeld : Held V B I → Type 0
    IsHeld h = IsHolder (held_from h) h.pass

    -- a turn of the pass that had the view v: the value tells a history that begins with what the pass had seen, and the pass has now seen all of it
    pub record IsTurn (t : Turnstile V B I) (v : View B I) (h : Held V B I) : Type 0 where
      pub turnstile : held_from h ≡ t
      pub held : IsHeld h
      pub view_is : held_view h ≡ turned v (held_view h).gain
      pub begins : IsPrefix v.gain (held_view h).gain
      pub tells : told (held_value h) ≡ with_more v.start (held_view h).gain
