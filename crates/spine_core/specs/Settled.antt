-- Which batches are due to be merged: by their weights, which are their rows and one more.
use Rattle.std.specs.Prelude.{ℕ, ◌+◌, ◌*◌, ◌≤◌, Option, List, map, nat_lt}
use Rattle.spine_core.specs.declared.batches.Batch.{Batch}
use Rattle.spine_core.specs.Places.{AllAdjacent, adjacent_place}

-- the weights of batches
abbrev pub weights_of : List Batch → List ℕ
weights_of bs = map (λ b. b.rows + 1) bs

-- no weight is below twice the next
abbrev pub IsSettled : List ℕ → Type 0
IsSettled ws = AllAdjacent (λ x y. 2 * y ≤ x) ws

-- the leftmost place whose weight is below twice the next
abbrev pub due_place : List ℕ → Option ℕ
due_place ws = adjacent_place (λ x y. nat_lt x (2 * y)) ws

-- a place and the next
abbrev pub with_next : ℕ → ℕ × ℕ
with_next i = (i, i + 1)
