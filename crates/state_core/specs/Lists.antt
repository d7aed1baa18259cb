-- Lists of which some element has a property, or none is twice there.
use Rattle.std.specs.Prelude.{List, [], ◌∷◌, ◌⊎◌, ⊤}

-- some element has P
abbrev pub Among : {A : Type 0} → (A → Type 0) → List A → Type 0
Among P [] = ⊥
Among P (x ∷ xs) = P x ⊎ Among P xs

-- no element stands twice
abbrev pub Distinct : {A : Type 0} → (A → A → Type 0) → List A → Type 0
Distinct Same [] = ⊤
Distinct Same (x ∷ xs) = (¬ Among (Same x) xs) × Distinct Same xs
