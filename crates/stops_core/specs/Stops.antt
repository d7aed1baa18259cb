-- Stop numbers.
use Rattle.std.specs.Prelude.{ℕ, Bool, false, ◌==◌, Option, Some, None, List, [], ◌∷◌, if◌then◌else◌}
use Rattle.stops_core.specs.declared.stops.Stop.{Stop}

-- the stop number of a worker, where it has one
abbrev pub stop_of : List Stop → ℕ → Option ℕ
stop_of [] worker = None
stop_of (s ∷ more) worker = if s.worker == worker then Some s.calls else stop_of more worker

-- as many calls were made as a stop number says, where there is one
abbrev pub is_stop : Option ℕ → ℕ → Bool
is_stop None calls = false
is_stop (Some n) calls = calls == n
