-- A list of weights each of which is at least twice the next is short.
use Rattle.std.proofs.Common.{◌≡◌, ℕ, zero, suc, ◌+◌, ◌*◌, ◌^◌, ◌<◌, ◌≤◌, ◌-◌, true, false, take, get_or, Option, Some, None, List, [], ◌∷◌, length, option_map, IfNone, IfSome, nat_lt, refl, sym, ap, subst, ◌∙◌, arith}
use Rattle.std.proofs.lemmas.Bool.Decides.{nat_tests}
use Rattle.std.proofs.lemmas.List.Sums.{sum_by-cons}
use Rattle.std.specs.List.{AllByRecursion}
use Rattle.spine_core.specs.declared.batches.Batch.{Batch}
use Rattle.spine_core.specs.Places.{AllAdjacent}
use Rattle.spine_core.specs.Settled.{weights_of, due_place, with_next, IsSettled}
use Rattle.spine_core.specs.Spines.{rows_of}
use Rattle.spine_core.proofs.Adjacent.{none_found, place_there, place_found, place_none, adjacent_step, adjacent_all, adjacent_place-map, adjacent_weaker}

halved : (x y p q : ℕ) → 2 * y ≤ x → x < q → q ≡ 2 * p → y < p
halved x y p q twice below is = omega arith

-- a first weight below 2^k leaves room for k weights
pub settled_short : (k w : ℕ) (ws : List ℕ) → IsSettled (w ∷ ws) → AllByRecursion (λ x. 1 ≤ x) (w ∷ ws) → w < 2 ^ k → length (w ∷ ws) ≤ k
settled_short zero w ws up some below = absurd (omega (arith, some.0))
settled_short (suc k) w [] up some below = omega arith
settled_short (suc k) w (v ∷ vs) up some below =
    omega (arith, settled_short k v vs up.1 some.1 (halved w v (2 ^ k) (2 ^ suc k) up.0 below (omega arith)))

weights_positive : (bs : List Batch) → AllByRecursion (λ x. 1 ≤ x) (weights_of bs)
weights_positive [] = tt
weights_positive (b ∷ bs) = (omega arith, weights_positive bs)

pub settled_few : (bs : List Batch) → rows_of bs ≤ 2 ^ 62 → IsSettled (weights_of bs) → length bs ≤ 64
settled_few [] room up = omega arith
settled_few (b ∷ bs) room up =
    omega (arith, length_weights (b ∷ bs), settled_short 63 (b.rows + 1) (weights_of bs) up (weights_positive (b ∷ bs)) (omega (arith, room, sum_by-cons (λ (c : Batch). c.rows) b bs)))
  where
    length_weights : (cs : List Batch) → length (weights_of cs) ≡ length cs
    length_weights [] = refl
    length_weights (c ∷ cs) = ap suc (length_weights cs)

none_mapped : (o : Option ℕ) → None ≡ option_map with_next o → o ≡ None
none_mapped None h = refl
none_mapped (Some i) h = cc

some_mapped : (o : Option ℕ) (q : ℕ × ℕ) (n : ℕ) → Some q ≡ option_map with_next o → ((i : ℕ) → o ≡ Some i → i + 1 < n) → (q.1 ≡ q.0 + 1) × (q.1 < n)
some_mapped None q n h there = cc
some_mapped (Some i) q n h there =
    let is : q ≡ with_next i = cc in
    (ap (λ r. r.1) is ∙ sym (ap (λ r. r.0 + 1) is), subst (λ r. r < n) (sym (ap (λ r. r.1) is)) (there i refl))

not_below : (x y : ℕ) → nat_lt x (2 * y) ≡ false → 2 * y ≤ x
not_below x y h = grind (arith, nat_tests)

-- what is due, or that nothing is
pub due_there : (r : Option (ℕ × ℕ)) (bs : List Batch) → r ≡ option_map with_next (due_place (weights_of bs)) → IfSome r (λ q. (q.1 ≡ q.0 + 1) × (q.1 < length bs))
due_there None bs h = tt
due_there (Some q) bs h = subst (λ n. (q.1 ≡ q.0 + 1) × (q.1 < n)) (length_weights bs) (some_mapped (due_place (weights_of bs)) q (length (weights_of bs)) h (place_there (λ x y. nat_lt x (2 * y)) (weights_of bs)))
  where
    length_weights : (cs : List Batch) → length (weights_of cs) ≡ length cs
    length_weights [] = refl
    length_weights (c ∷ cs) = ap suc (length_weights cs)

pub due_settled : (r : Option (ℕ × ℕ)) (bs : List Batch) → r ≡ option_map with_next (due_place (weights_of bs)) → IfNone r (IsSettled (weights_of bs))
due_settled None bs h =
    adjacent_weaker (λ x y. nat_lt x (2 * y) ≡ false) (λ x y. 2 * y ≤ x) not_below (weights_of bs) (none_found (λ x y. nat_lt x (2 * y)) (weights_of bs) (none_mapped (due_place (weights_of bs)) h))
due_settled (Some q) bs h = tt

pub due_few : (r : Option (ℕ × ℕ)) (bs : List Batch) → rows_of bs ≤ 2 ^ 62 → IfNone r (IsSettled (weights_of bs)) → IfNone r (length bs ≤ 64)
due_few None bs room up = settled_few bs room up
due_few (Some q) bs room up = tt

is_below : (x y : ℕ) → x < y → nat_lt x y ≡ true
is_below x y h = grind (arith, nat_tests)

not_less : (x y : ℕ) → y ≤ x → nat_lt x y ≡ false
not_less x y h = grind (arith, nat_tests)

-- where a loop over i from 1 on finds two that are due
pub due_found : (bs : List Batch) (i : ℕ) (x y : Batch) → 1 ≤ i → i < length bs → AllAdjacent (λ a b. nat_lt (a.rows + 1) (2 * (b.rows + 1)) ≡ false) (take i bs)
    → (get_or bs (i - 1) x).rows + 1 < 2 * ((get_or bs i y).rows + 1) → Some (i - 1, i) ≡ option_map with_next (due_place (weights_of bs))
due_found bs i x y low h none below =
    let back : i - 1 + 1 ≡ i = omega arith in
    let passes = is_below ((get_or bs (i - 1) x).rows + 1) (2 * ((get_or bs i y).rows + 1)) below in
    let place = adjacent_place-map (λ (b : Batch). b.rows + 1) (λ v w. nat_lt v (2 * w)) bs ∙ place_found (λ (a b : Batch). nat_lt (a.rows + 1) (2 * (b.rows + 1))) bs i x y low h none passes in
    sym (ap (option_map with_next) place ∙ ap (λ n. Some (i - 1, n)) back)

-- where it finds none at i
pub due_kept : (bs : List Batch) (i : ℕ) (x y : Batch) → 1 ≤ i → i < length bs → AllAdjacent (λ a b. nat_lt (a.rows + 1) (2 * (b.rows + 1)) ≡ false) (take i bs)
    → 2 * ((get_or bs i y).rows + 1) ≤ (get_or bs (i - 1) x).rows + 1 → AllAdjacent (λ a b. nat_lt (a.rows + 1) (2 * (b.rows + 1)) ≡ false) (take (i + 1) bs)
due_kept bs i x y low h none above =
    adjacent_step (λ (a b : Batch). nat_lt (a.rows + 1) (2 * (b.rows + 1)) ≡ false) bs i x y low h none
    (not_less ((get_or bs (i - 1) x).rows + 1) (2 * ((get_or bs i y).rows + 1)) above)

-- and at its end
pub due_nowhere : (bs : List Batch) (i : ℕ) → length bs ≤ i → AllAdjacent (λ a b. nat_lt (a.rows + 1) (2 * (b.rows + 1)) ≡ false) (take i bs) → None ≡ option_map with_next (due_place (weights_of bs))
due_nowhere bs i h none =
    sym (ap (option_map with_next) (adjacent_place-map (λ (b : Batch). b.rows + 1) (λ v w. nat_lt v (2 * w)) bs
    ∙ place_none (λ (a b : Batch). nat_lt (a.rows + 1) (2 * (b.rows + 1))) bs (adjacent_all (λ (a b : Batch). nat_lt (a.rows + 1) (2 * (b.rows + 1)) ≡ false) bs i h none)))
