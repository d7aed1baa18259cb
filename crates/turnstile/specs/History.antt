-- What a value tells: its beginning and its entries, both or neither.
use Rattle.std.specs.Prelude.{◌≡◌, ℕ, List, [], ◌++◌, length, min, Option, Some, None, ◌^◌, ◌-◌}

module _ {B I : Type 0} where
  -- the count of the entries, as far as 2^64 - 1
  abbrev pub CountsTo : Option (B × List I) → ℕ → Type 0
  CountsTo None n = Unit {0}
  CountsTo (Some p) n = n ≡ min (length p.1) (2 ^ 64 - 1)

  -- the entries, where they are told
  abbrev pub entries_of : Option (B × List I) → List I
  entries_of None = []
  entries_of (Some p) = p.1

  -- what was told at the start, with these entries more
  abbrev pub with_more : Option (B × List I) → List I → Option (B × List I)
  with_more None xs = None
  with_more (Some p) xs = Some (p.0, p.1 ++ xs)

  -- the beginning and the entries are told
  abbrev pub IsTold : Option (B × List I) → Type 0
  IsTold None = ⊥
  IsTold (Some p) = Unit {0}
