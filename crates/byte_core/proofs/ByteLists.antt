-- What stays a list of bytes.
use Rattle.std.proofs.Common.{◌≡◌, ◌+◌, ◌<◌, ◌&&◌, ℕ, zero, suc, Bool, true, false, List, [], ◌∷◌, take, drop, get_or, refl, ap, ◌∙◌, arith, inl, inr}
use Rattle.std.specs.Prelude.{nat_lt}
use Rattle.std.proofs.lemmas.Bool.{cases_lt, ltb-true, le-leb}
use Rattle.std.proofs.lemmas.List.{length-take, get_or-drop, get_or-take, get_or_past}
use Rattle.byte_core.specs.ByteLists.{IsBytes, are_bytes}

pub IsBytes-drop : (n : ℕ) (bytes : List ℕ) → IsBytes bytes → IsBytes (drop n bytes)
IsBytes-drop n bytes h i = rw get_or-drop (h (n + i))

pub IsBytes-take : (n : ℕ) (bytes : List ℕ) → IsBytes bytes → IsBytes (take n bytes)
IsBytes-take n bytes h i =
    elim (cases_lt i n) [
      | inl lt ↦ rw (get_or-take n bytes i 0 lt) (h i)
      | inr le ↦ rw (get_or_past (take n bytes) i 0 (omega (arith, length-take n bytes))) (omega arith)
    ]

pub IsBytes-rest : (b : ℕ) (bytes : List ℕ) → IsBytes (b ∷ bytes) → IsBytes bytes
IsBytes-rest b bytes h i = h (suc i)

-- ---- bytes one by one

pub IsBytes-none : IsBytes []
IsBytes-none i = omega arith

pub IsBytes-more : (b : ℕ) (bytes : List ℕ) → b < 256 → IsBytes bytes → IsBytes (b ∷ bytes)
IsBytes-more b bytes less rest zero = less
IsBytes-more b bytes less rest (suc i) = rest i

-- ---- the test

both : (a b : Bool) → a && b ≡ true → (a ≡ true) × (b ≡ true)
both true true h = (refl, refl)
both true false h = cc
both false b h = cc

pub bytes_of_test : (bytes : List ℕ) → are_bytes bytes ≡ true → IsBytes bytes
bytes_of_test [] h = IsBytes-none
bytes_of_test (b ∷ bs) h =
    let first = both (nat_lt b 256) (are_bytes bs) h in
    IsBytes-more b bs (ltb-true b 256 first.0) (bytes_of_test bs first.1)

pub test_of_bytes : (bytes : List ℕ) → IsBytes bytes → are_bytes bytes ≡ true
test_of_bytes [] h = refl
test_of_bytes (b ∷ bs) h =
    let first : b < 256 = h 0 in
    ap (λ (t : Bool). t && are_bytes bs) (le-leb (suc b) 256 first) ∙ test_of_bytes bs (λ i. h (suc i))
