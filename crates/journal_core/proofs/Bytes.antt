-- Bytes that agree with others at their places.
use Rattle.std.proofs.Common.{◌≡◌, ◌≢◌, ℕ, zero, suc, ◌<◌, List, [], ◌∷◌, ◌++◌, length, Some, None}
use Rattle.std.proofs.Common.{refl, ap, ◌∙◌, arith}
use Rattle.journal_core.specs.Disks.{byte_at}

some_is : (a b : ℕ) → Some a ≡ Some b → a ≡ b
some_is a b e = cc

-- there is a byte at each place before the end
pub byte_there : (xs : List ℕ) (p : ℕ) → p < length xs → (b : ℕ) × (byte_at xs p ≡ Some b)
byte_there [] p lt = absurd (omega arith)
byte_there (x ∷ xs) zero lt = (x, refl)
byte_there (x ∷ xs) (suc p) lt = byte_there xs p (omega arith)

-- and none past it
pub byte_before : (xs : List ℕ) (p b : ℕ) → byte_at xs p ≡ Some b → p < length xs
byte_before [] p b is = absurd cc
byte_before (x ∷ xs) zero b is = omega arith
byte_before (x ∷ xs) (suc p) b is = let lt : p < length xs = byte_before xs p b is in omega arith

-- so what agrees with others there is as long
pub agrees_before : (xs ys : List ℕ) (p : ℕ) → byte_at ys p ≡ byte_at xs p → p < length xs → p < length ys
agrees_before xs ys p is lt = let there = byte_there xs p lt in byte_before ys p there.0 (is ∙ there.1)

-- the bytes of a front
pub byte_at-front : (xs ys : List ℕ) (p : ℕ) → p < length xs → byte_at (xs ++ ys) p ≡ byte_at xs p
byte_at-front [] ys p lt = absurd (omega arith)
byte_at-front (x ∷ xs) ys zero lt = refl
byte_at-front (x ∷ xs) ys (suc p) lt = byte_at-front xs ys p (omega arith)

-- what agrees with a list as far as that goes begins with it
pub agree_front : (xs c : List ℕ) → ((p : ℕ) → p < length xs → byte_at c p ≡ byte_at xs p) → (rest : List ℕ) × (c ≡ xs ++ rest)
agree_front [] c agree = (c, refl)
agree_front (x ∷ xs) [] agree = let e : None ≡ Some x = agree 0 (omega arith) in absurd cc
agree_front (x ∷ xs) (b ∷ bs) agree =
    let first : b ≡ x = some_is b x (agree 0 (omega arith)) in
    let others = agree_front xs bs (λ p lt. agree (suc p) (omega arith)) in
    (others.0, ap (λ (y : ℕ). y ∷ bs) first ∙ ap (λ (l : List ℕ). x ∷ l) others.1)

-- what agrees with a list at all places but one
pub agree_but_one : (xs : List ℕ) (b : ℕ) (ys c : List ℕ) → 0 < length ys
    → ((p : ℕ) → p < length (xs ++ b ∷ ys) → p ≢ length xs → byte_at c p ≡ byte_at (xs ++ b ∷ ys) p)
    → (g : ℕ) × (rest : List ℕ) × (c ≡ xs ++ g ∷ (ys ++ rest))
agree_but_one [] b [] c some agree = absurd (omega arith)
agree_but_one [] b (y ∷ ys) [] some agree = let e : None ≡ Some y = agree 1 (omega arith) (omega arith) in absurd cc
agree_but_one [] b (y ∷ ys) (g ∷ bs) some agree =
    let others = agree_front (y ∷ ys) bs (λ p lt. agree (suc p) (omega arith) (omega arith)) in
    (g, others.0, ap (λ (l : List ℕ). g ∷ l) others.1)
agree_but_one (x ∷ xs) b ys [] some agree = let e : None ≡ Some x = agree 0 (omega arith) (omega arith) in absurd cc
agree_but_one (x ∷ xs) b ys (d ∷ bs) some agree =
    let first : d ≡ x = some_is d x (agree 0 (omega arith) (omega arith)) in
    let others = agree_but_one xs b ys bs some (λ p lt other. agree (suc p) (omega arith) (λ e. other (omega arith))) in
    (others.0, others.1, ap (λ (y : ℕ). y ∷ bs) first ∙ ap (λ (l : List ℕ). x ∷ l) others.2)
