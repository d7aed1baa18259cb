-- Which lists of numbers are lists of bytes.
use Rattle.std.specs.Prelude.{◌<◌, ℕ, Bool, List, get_or, nat_lt}
use Rattle.std.specs.List.{list_all}

-- each is a byte
abbrev pub IsBytes : List ℕ → Type 0
IsBytes bytes = (i : ℕ) → get_or bytes i 0 < 256

-- whether each is
abbrev pub are_bytes : List ℕ → Bool
are_bytes bytes = list_all (λ b. nat_lt b 256) bytes
