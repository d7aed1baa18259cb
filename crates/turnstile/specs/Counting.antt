-- A seat that counts what its value gained.
use Rattle.std.specs.Prelude.{◌≡◌, ℕ, ◌<◌, List, length, min, Option, ◌^◌, ◌-◌}
use Rattle.atomic_table.specs.declared.shared.Seat.{Seat}
use Rattle.turnstile.specs.declared.views.View.{View}
use Rattle.turnstile.specs.declared.turnstiles.Turnstile.{Turnstile}
use Rattle.turnstile.specs.History.{CountsTo, IsTold}
use Rattle.turnstile.specs.Plays.{Gains, seen}
use Rattle.turnstile.specs.Passes.{first_value}

-- the entries es are those that the value y gained in the turn of this seat, and count and now what it counted before and counts now
pub record IsCounting {V B I : Type 0} (told : V → Option (B × List I)) (client : I → ℕ) (t : Turnstile V B I) (s : Seat (Option V) (View B I)) (y : V)
    (es : List I) (now count : ℕ) : Type 0 where
  pub table : s.table_id ≡ t.board.shared.table_id
  pub share : 0 < s.me.0.share
  pub turn : s.me.0.turn ≡ 1
  pub start : s.me.0.start ≡ told (first_value t)
  pub gains : Gains told client s.me.0 y es
  pub now_is : CountsTo (told y) now
  pub count_is : IsTold s.me.0.start → count ≡ min (length (seen s.me.0)) (2 ^ 64 - 1)
