-- Streams of bytes: what a source has left, and what a sink has taken, where they tell it.
use Rattle.std.specs.Prelude.{◌≡◌, ℕ, ◌+◌, ◌<◌, ◌≤◌, Option, Some, None, IfSome, List, [], ◌++◌, length}

-- the bytes left were these
abbrev pub Left : Option (List ℕ) → List ℕ → Type 0
Left left text = IfSome left (λ had. had ≡ text)

-- these bytes were the first of those left, and are taken
abbrev pub Takes : Option (List ℕ) → Option (List ℕ) → List ℕ → Type 0
Takes None now bytes = now ≡ None
Takes (Some text) now bytes = (rest : List ℕ) × (text ≡ bytes ++ rest) × (now ≡ Some rest)

-- nothing is left
abbrev pub AtEnd : Option (List ℕ) → Type 0
AtEnd left = IfSome left (λ text. text ≡ [])

-- these bytes have come to the end of those taken
abbrev pub Gains : Option (List ℕ) → Option (List ℕ) → List ℕ → Type 0
Gains None now bytes = now ≡ None
Gains (Some text) now bytes = now ≡ Some (text ++ bytes)

-- a front of these bytes has come to the end of those taken
abbrev pub GainsFront : Option (List ℕ) → Option (List ℕ) → List ℕ → Type 0
GainsFront taken now bytes = (front : List ℕ) × (rest : List ℕ) × (bytes ≡ front ++ rest) × Gains taken now front

-- so many bytes were the first of those left, are taken, and have come to the end of the text
abbrev pub Grows : Option (List ℕ) → Option (List ℕ) → List ℕ → List ℕ → ℕ → Type 0
Grows left now text text_now n = (bytes : List ℕ) × (length bytes ≡ n) × Takes left now bytes × (text_now ≡ text ++ bytes)

-- all bytes that were left are taken, or so many
pub record TakesAll (bound : ℕ) (left now : Option (List ℕ)) (bytes : List ℕ) : Type 0 where
  pub few : length bytes ≤ bound
  pub taken : Takes left now bytes
  pub end : length bytes < bound → AtEnd now

-- At most so many bytes were taken, and each read but the last took one.
pub record ReadsUpTo (bound : ℕ) (left now : Option (List ℕ)) (reads reads_now : ℕ) : Type 0 where
  pub bytes : List ℕ
  pub few : length bytes ≤ bound
  pub taken : Takes left now bytes
  pub turns : reads_now ≤ reads + length bytes + 1
