-- Neighbours in a list.
use Rattle.std.specs.Prelude.{ℕ, ◌+◌, Bool, ⊤, Option, Some, None, List, [], ◌∷◌, if◌then◌else◌, option_map}

-- each element and the next are related
abbrev pub AllAdjacent : {A : Type 0} → (A → A → Type 0) → List A → Type 0
AllAdjacent P [] = ⊤
AllAdjacent P (x ∷ []) = ⊤
AllAdjacent P (x ∷ y ∷ xs) = P x y × AllAdjacent P (y ∷ xs)

-- the first place whose element and the next pass a test
abbrev pub adjacent_place : {A : Type 0} → (A → A → Bool) → List A → Option ℕ
adjacent_place p [] = None
adjacent_place p (x ∷ []) = None
adjacent_place p (x ∷ y ∷ xs) = if p x y then Some 0 else option_map (λ n. n + 1) (adjacent_place p (y ∷ xs))
