-- A spine: batches that follow one another without a gap, from time 0 on.
use Rattle.std.specs.Prelude.{◌≡◌, ℕ, true, ⊤, Option, Some, List, [], ◌∷◌, ◌++◌, sum_by}
use Rattle.spine_core.specs.declared.batches.Batch.{Batch}
use Rattle.spine_core.specs.Places.{AllAdjacent}
use Rattle.update_core.specs.Frontiers.{covers}

-- the first batch is from the frontier on, each covers its lower, and the next is from its upper on
abbrev pub Follows : Option ℕ → List Batch → Type 0
Follows f [] = ⊤
Follows f (b ∷ bs) = (f ≡ Some b.desc.lower) × (covers b.desc.upper b.desc.lower ≡ true) × Follows b.desc.upper bs

-- the batches of a spine
abbrev pub IsSpine : List Batch → Type 0
IsSpine bs = Follows (Some 0) bs

-- the upper of the last batch, or f where there is none
abbrev pub upper_from : Option ℕ → List Batch → Option ℕ
upper_from f [] = f
upper_from f (b ∷ bs) = upper_from b.desc.upper bs

-- the frontier up to which a spine goes: that of the last batch, or time 0
abbrev pub spine_upper : List Batch → Option ℕ
spine_upper bs = upper_from (Some 0) bs

-- how many rows there are in all
abbrev pub rows_of : List Batch → ℕ
rows_of bs = sum_by (λ b. b.rows) bs

-- left is nowhere directly followed by right
abbrev pub HasNoPair : Batch → Batch → List Batch → Type 0
HasNoPair left right bs = AllAdjacent (λ x y. ¬ ((x ≡ left) × (y ≡ right))) bs

-- left is directly followed by right, with these before and after, and at no place before
pub record Pair (left right : Batch) (bs : List Batch) : Type 0 where
  pub front : List Batch
  pub back : List Batch
  pub stands : bs ≡ front ++ left ∷ right ∷ back
  pub first : HasNoPair left right (front ++ left ∷ [])

-- left and right, at their first place, became merged
abbrev pub Replaced : Batch → Batch → Batch → List Batch → List Batch → Type 0
Replaced left right merged old new = (pair : Pair left right old) × (new ≡ pair.front ++ merged ∷ pair.back)
