use Rattle.std.proofs.Common.{◌≡◌, Bool, true, false, List, [], ◌∷◌, ◌++◌, ◌⊎◌, inl, inr, refl, ap, subst}
use Rattle.state_core.specs.Lists.{Among, Distinct}
use Rattle.std.specs.List.{AllByRecursion}

pub among_map : {A : Type 0} (P Q : A → Type 0) (xs : List A) → ((x : A) → P x → Q x) → Among P xs → Among Q xs
among_map P Q [] f h = h
among_map P Q (x ∷ xs) f (inl p) = inl (f x p)
among_map P Q (x ∷ xs) f (inr p) = inr (among_map P Q xs f p)

pub each_map : {A : Type 0} (P Q : A → Type 0) (xs : List A) → ((x : A) → P x → Q x) → AllByRecursion P xs → AllByRecursion Q xs
each_map P Q [] f h = h
each_map P Q (x ∷ xs) f h = (f x h.0, each_map P Q xs f h.1)

-- an element with Q, where each has P, has both
pub each_among : {A : Type 0} (P Q : A → Type 0) (xs : List A) → AllByRecursion P xs → Among Q xs → (x : A) × P x × Q x
each_among P Q [] e h = absurd h
each_among P Q (x ∷ xs) e (inl q) = (x, e.0, q)
each_among P Q (x ∷ xs) e (inr q) = each_among P Q xs e.1 q

-- the element that has P
pub among_some : {A : Type 0} (P : A → Type 0) (xs : List A) → Among P xs → (x : A) × P x
among_some P [] h = absurd h
among_some P (x ∷ xs) (inl p) = (x, p)
among_some P (x ∷ xs) (inr p) = among_some P xs p

-- what holds of each that is among
pub each_intro : {A : Type 0} (P : A → Type 0) (xs : List A) → ((x : A) → Among (λ y. y ≡ x) xs → P x) → AllByRecursion P xs
each_intro P [] f = tt
each_intro P (x ∷ xs) f = (f x (inl refl), each_intro P xs (λ y h. f y (inr h)))

pub each_append : {A : Type 0} (P : A → Type 0) (xs ys : List A) → AllByRecursion P xs → AllByRecursion P ys → AllByRecursion P (xs ++ ys)
each_append P [] ys a b = b
each_append P (x ∷ xs) ys a b = (a.0, each_append P xs ys a.1 b)

pub each_front : {A : Type 0} (P : A → Type 0) (xs ys : List A) → AllByRecursion P (xs ++ ys) → AllByRecursion P xs
each_front P [] ys h = tt
each_front P (x ∷ xs) ys h = (h.0, each_front P xs ys h.1)

pub each_back : {A : Type 0} (P : A → Type 0) (xs ys : List A) → AllByRecursion P (xs ++ ys) → AllByRecursion P ys
each_back P [] ys h = h
each_back P (x ∷ xs) ys h = each_back P xs ys h.1

pub among_front : {A : Type 0} (P : A → Type 0) (xs ys : List A) → Among P xs → Among P (xs ++ ys)
among_front P [] ys h = absurd h
among_front P (x ∷ xs) ys (inl p) = inl p
among_front P (x ∷ xs) ys (inr p) = inr (among_front P xs ys p)

pub among_back : {A : Type 0} (P : A → Type 0) (xs ys : List A) → Among P ys → Among P (xs ++ ys)
among_back P [] ys h = h
among_back P (x ∷ xs) ys h = inr (among_back P xs ys h)

pub among_split : {A : Type 0} (P : A → Type 0) (xs ys : List A) → Among P (xs ++ ys) → Among P xs ⊎ Among P ys
among_split P [] ys h = inr h
among_split P (x ∷ xs) ys (inl p) = inl (inl p)
among_split P (x ∷ xs) ys (inr p) = elim (among_split P xs ys p) [ inl a ↦ inl (inr a) | inr b ↦ inr b ]

-- an element of the front isn't in the back of a list in which none stands twice
pub apart : {A : Type 0} (xs ys : List A) (k : A) → Distinct (λ a b. a ≡ b) (xs ++ ys) → Among (λ q. q ≡ k) xs → ¬ Among (λ q. q ≡ k) ys
apart [] ys k d h g = absurd h
apart (x ∷ xs) ys k d (inl e) g = d.0 (among_back (λ b. x ≡ b) xs ys (among_map (λ q. q ≡ k) (λ b. x ≡ b) ys (λ q p. cc) g))
apart (x ∷ xs) ys k d (inr h) g = apart xs ys k d.1 h g

pub distinct_back : {A : Type 0} (xs ys : List A) → Distinct (λ a b. a ≡ b) (xs ++ ys) → Distinct (λ a b. a ≡ b) ys
distinct_back [] ys d = d
distinct_back (x ∷ xs) ys d = distinct_back xs ys d.1

pub bool_cases : (b : Bool) → (b ≡ true) ⊎ (b ≡ false)
bool_cases true = inl refl
bool_cases false = inr refl

pub each_both : {A : Type 0} (P Q R : A → Type 0) (xs : List A) → ((x : A) → P x → Q x → R x) → AllByRecursion P xs → AllByRecursion Q xs → AllByRecursion R xs
each_both P Q R [] f a b = tt
each_both P Q R (x ∷ xs) f a b = (f x a.0 b.0, each_both P Q R xs f a.1 b.1)

-- what holds of each holds of one that is among
pub each_at : {A : Type 0} (P : A → Type 0) (xs : List A) (x : A) → AllByRecursion P xs → Among (λ y. y ≡ x) xs → P x
each_at P [] x e h = absurd h
each_at P (y ∷ xs) x e (inl p) = subst P p e.0
each_at P (y ∷ xs) x e (inr p) = each_at P xs x e.1 p

pub append-nil : {A : Type 0} (xs : List A) → xs ++ [] ≡ xs
append-nil [] = refl
append-nil (x ∷ xs) = ap (λ ys. x ∷ ys) (append-nil xs)
