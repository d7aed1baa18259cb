-- Neighbours in a list, found one after the other.
use Rattle.std.proofs.Common.{◌≡◌, ℕ, zero, suc, ◌+◌, ◌-◌, ◌<◌, ◌≤◌, Bool, true, false, cond, Option, Some, None, List, [], ◌∷◌, length, take, get_or, map, option_map, refl, sym, ap, subst, ◌∙◌, arith}
use Rattle.std.proofs.Math.Numerals.{add-one}
use Rattle.spine_core.specs.Places.{AllAdjacent, adjacent_place}

module _ {A : Type 0} (P : A → A → Type 0) where
  pub adjacent_one : (xs : List A) → AllAdjacent P (take 1 xs)
  adjacent_one [] = tt
  adjacent_one (x ∷ xs) = tt

  adjacent_more : (xs : List A) (j : ℕ) (d e : A) → suc j < length xs → AllAdjacent P (take (suc j) xs) → P (get_or xs j d) (get_or xs (suc j) e) → AllAdjacent P (take (suc (suc j)) xs)
  adjacent_more [] j d e h all p = absurd (omega arith)
  adjacent_more (x ∷ []) j d e h all p = absurd (omega arith)
  adjacent_more (x ∷ y ∷ xs) zero d e h all p = (p, tt)
  adjacent_more (x ∷ y ∷ xs) (suc j) d e h all p = (all.0, adjacent_more (y ∷ xs) j d e (omega arith) all.1 p)

  -- the step of a loop over i from 1 on
  pub adjacent_step : (xs : List A) (i : ℕ) (d e : A) → 1 ≤ i → i < length xs → AllAdjacent P (take i xs) → P (get_or xs (i - 1) d) (get_or xs i e) → AllAdjacent P (take (i + 1) xs)
  adjacent_step xs zero d e low h all p = absurd (omega arith)
  adjacent_step xs (suc j) d e low h all p =
      let back : suc j - 1 ≡ j = omega arith in
      subst (λ n. AllAdjacent P (take n xs)) (sym (add-one (suc j))) (adjacent_more xs j d e h all (subst (λ n. P (get_or xs n d) (get_or xs (suc j) e)) back p))

  -- the end of such a loop
  pub adjacent_all : (xs : List A) (i : ℕ) → length xs ≤ i → AllAdjacent P (take i xs) → AllAdjacent P xs
  adjacent_all [] i h all = tt
  adjacent_all (x ∷ []) i h all = tt
  adjacent_all (x ∷ y ∷ xs) zero h all = absurd (omega arith)
  adjacent_all (x ∷ y ∷ xs) (suc zero) h all = absurd (omega arith)
  adjacent_all (x ∷ y ∷ xs) (suc (suc i)) h all = (all.0, adjacent_all (y ∷ xs) (suc i) (omega arith) all.1)

module _ {A : Type 0} (p : A → A → Bool) where
  found_at : (xs : List A) (j : ℕ) (d e : A) → suc j < length xs → AllAdjacent (λ x y. p x y ≡ false) (take (suc j) xs) → p (get_or xs j d) (get_or xs (suc j) e) ≡ true → adjacent_place p xs ≡ Some j
  found_at [] j d e h all is = absurd (omega arith)
  found_at (x ∷ []) j d e h all is = absurd (omega arith)
  found_at (x ∷ y ∷ xs) zero d e h all is = ap (λ b. cond b (Some 0) (option_map (λ n. n + 1) (adjacent_place p (y ∷ xs)))) is
  found_at (x ∷ y ∷ xs) (suc j) d e h all is =
      ap (λ b. cond b (Some 0) (option_map (λ n. n + 1) (adjacent_place p (y ∷ xs)))) all.0
      ∙ ap (option_map (λ n. n + 1)) (found_at (y ∷ xs) j d e (omega arith) all.1 is)
      ∙ ap Some (add-one j)

  -- the first place is where a loop over i from 1 on first finds a pair
  pub place_found : (xs : List A) (i : ℕ) (d e : A) → 1 ≤ i → i < length xs → AllAdjacent (λ x y. p x y ≡ false) (take i xs) → p (get_or xs (i - 1) d) (get_or xs i e) ≡ true → adjacent_place p xs ≡ Some (i - 1)
  place_found xs zero d e low h all is = absurd (omega arith)
  place_found xs (suc j) d e low h all is =
      let back : suc j - 1 ≡ j = omega arith in
      found_at xs j d e h all (subst (λ n. p (get_or xs n d) (get_or xs (suc j) e) ≡ true) back is) ∙ ap Some (sym back)

  pub place_none : (xs : List A) → AllAdjacent (λ x y. p x y ≡ false) xs → adjacent_place p xs ≡ None
  place_none [] all = refl
  place_none (x ∷ []) all = refl
  place_none (x ∷ y ∷ xs) all =
      ap (λ b. cond b (Some 0) (option_map (λ n. n + 1) (adjacent_place p (y ∷ xs)))) all.0
      ∙ ap (option_map (λ n. n + 1)) (place_none (y ∷ xs) all.1)

  none_from : (b : Bool) (o : Option ℕ) → cond b (Some 0) (option_map (λ n. n + 1) o) ≡ None → (b ≡ false) × (o ≡ None)
  none_from true o h = cc
  none_from false None h = (refl, refl)
  none_from false (Some n) h = cc

  pub none_found : (xs : List A) → adjacent_place p xs ≡ None → AllAdjacent (λ x y. p x y ≡ false) xs
  none_found [] h = tt
  none_found (x ∷ []) h = tt
  none_found (x ∷ y ∷ xs) h =
      let here = none_from (p x y) (adjacent_place p (y ∷ xs)) h in
      (here.0, none_found (y ∷ xs) here.1)

  some_from : (b : Bool) (o : Option ℕ) (i n : ℕ) → cond b (Some 0) (option_map (λ n. n + 1) o) ≡ Some i → ((k : ℕ) → o ≡ Some k → k + 1 < n) → 1 ≤ n → i + 1 < n + 1
  some_from true o i n h rest low = let zero_is : 0 ≡ i = cc in omega arith
  some_from false None i n h rest low = cc
  some_from false (Some k) i n h rest low = let next : k + 1 ≡ i = cc in omega (arith, rest k refl)

  -- a place that is found has a next
  pub place_there : (xs : List A) (i : ℕ) → adjacent_place p xs ≡ Some i → i + 1 < length xs
  place_there [] i h = cc
  place_there (x ∷ []) i h = cc
  place_there (x ∷ y ∷ xs) i h = omega (arith, some_from (p x y) (adjacent_place p (y ∷ xs)) i (length (y ∷ xs)) h (λ k. place_there (y ∷ xs) k) (omega arith))

module _ {A B : Type 0} (f : A → B) (p : B → B → Bool) where
  -- places in a list that was mapped
  pub adjacent_place-map : (xs : List A) → adjacent_place p (map f xs) ≡ adjacent_place (λ x y. p (f x) (f y)) xs
  adjacent_place-map [] = refl
  adjacent_place-map (x ∷ []) = refl
  adjacent_place-map (x ∷ y ∷ xs) = ap (λ o. cond (p (f x) (f y)) (Some 0) (option_map (λ n. n + 1) o)) (adjacent_place-map (y ∷ xs))

-- what is so of each pair is so of each pair by another relation that follows from it
pub adjacent_weaker : {A : Type 0} (P Q : A → A → Type 0) → ((x y : A) → P x y → Q x y) → (xs : List A) → AllAdjacent P xs → AllAdjacent Q xs
adjacent_weaker P Q f [] all = tt
adjacent_weaker P Q f (x ∷ []) all = tt
adjacent_weaker P Q f (x ∷ y ∷ xs) all = (f x y all.0, adjacent_weaker P Q f (y ∷ xs) all.1)
