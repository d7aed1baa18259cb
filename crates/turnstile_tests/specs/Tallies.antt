-- What a tally tells.
use Rattle.std.specs.Prelude.{◌≡◌, ℕ, List, Option, Some}
use Rattle.turnstile.specs.declared.passes.Pass.{Pass}
use Rattle.turnstile.specs.declared.turnstiles.Turnstile.{Turnstile}
use Rattle.turnstile.specs.Passes.{IsPassOf, view}
use Rattle.turnstile_tests.specs.declared.marks.Mark.{Mark}
use Rattle.turnstile_tests.specs.declared.tallies.Tally.{Tally}

abbrev pub mark_client : Mark → ℕ
mark_client m = m.client

abbrev pub tally_told : Tally → Option (ℕ × List Mark)
tally_told t = Some (t.from, t.marks.items)

-- the pass q is the turnstile's, and has the share that p had
pub record GoesOn (t : Turnstile Tally ℕ Mark) (p q : Pass Tally ℕ Mark) : Type 0 where
  pub is_pass : IsPassOf tally_told mark_client t q
  pub share : (view q).share ≡ (view p).share
