-- What a writer of a version has written fits.
use Rattle.std.proofs.Common.{◌≡◌, ℕ, ◌+◌, ◌<◌, List, [], ◌∷◌, ◌++◌, length, take, get_or, sym, ap, subst, ◌∙◌}
use Rattle.std.specs.List.{AllByRecursion}
use Rattle.std.proofs.lemmas.List.{take_more}
use Rattle.state_core.proofs.ListLemmas.{each_append}

-- one element more of a list of which each is looked at
pub each_more : {A : Type 0} (P : A → Type 0) (xs : List A) (i : ℕ) (x : A) → i < length xs → x ≡ get_or xs i x → AllByRecursion P (take i xs) → P x → AllByRecursion P (take (i + 1) xs)
each_more {A} P xs i x lt is h p =
    let more : take (i + 1) xs ≡ take i xs ++ x ∷ [] = take_more xs i x lt ∙ ap (λ (r : A). take i xs ++ r ∷ []) (sym is) in
    subst (λ (ys : List A). AllByRecursion P ys) (sym more) (each_append P (take i xs) (x ∷ []) h (p, tt))
