-- Whether the first so many workers were halted, one after the other.
use Rattle.std.proofs.Common.{◌≡◌, ℕ, zero, suc, ◌+◌, ◌-◌, ◌<◌, ◌≤◌, true, false, List, [], ◌∷◌, length, drop, slice_index_or, refl, sym, ap, ◌∙◌, arith}
use Rattle.std.proofs.lemmas.List.{drop_all, drop_more}
use Rattle.crew.specs.declared.ends.WorkerEnd.{WorkerEnd}
use Rattle.ingest_run.specs.Verdicts.{are_halted, is_halted}

-- at the end of the list all that there are were halted
none_left : (n : ℕ) → are_halted n [] ≡ true
none_left zero = refl
none_left (suc n) = refl

pub halted_past : (n : ℕ) (es : List WorkerEnd) (i : ℕ) → length es ≤ i → are_halted n (drop i es) ≡ true
halted_past n es i far = ap (are_halted n) (drop_all i es far) ∙ none_left n

-- the next one
pub next_is : (es : List WorkerEnd) (i : ℕ) (e : WorkerEnd) → i < length es → e ≡ slice_index_or es i e → drop i es ≡ e ∷ drop (i + 1) es
next_is es i e lt is = drop_more es i e lt ∙ ap (λ (x : WorkerEnd). x ∷ drop (i + 1) es) (sym is)

one_more : (n : ℕ) → (n ≡ 0 → ⊥) → n ≡ suc (n - 1)
one_more zero some = absurd (some refl)
one_more (suc n) some = omega arith

halted_cons : (n : ℕ) (e : WorkerEnd) (es : List WorkerEnd) → (n ≡ 0 → ⊥) → is_halted e ≡ true → are_halted n (e ∷ es) ≡ are_halted (n - 1) es
halted_cons n e es some h = ap (λ (m : ℕ). are_halted m (e ∷ es)) (one_more n some) ∙ rw h refl

not_cons : (n : ℕ) (e : WorkerEnd) (es : List WorkerEnd) → (n ≡ 0 → ⊥) → is_halted e ≡ false → are_halted n (e ∷ es) ≡ false
not_cons n e es some h = ap (λ (m : ℕ). are_halted m (e ∷ es)) (one_more n some) ∙ rw h refl

pub halted_more : (n : ℕ) (es : List WorkerEnd) (i : ℕ) (e : WorkerEnd) → (n ≡ 0 → ⊥) → i < length es → e ≡ slice_index_or es i e →
    is_halted e ≡ true → are_halted (n - 1) (drop (i + 1) es) ≡ are_halted n (drop i es)
halted_more n es i e some lt is h = sym (ap (are_halted n) (next_is es i e lt is) ∙ halted_cons n e (drop (i + 1) es) some h)

pub halted_not : (n : ℕ) (es : List WorkerEnd) (i : ℕ) (e : WorkerEnd) → (n ≡ 0 → ⊥) → i < length es → e ≡ slice_index_or es i e →
    is_halted e ≡ false → are_halted n (drop i es) ≡ false
halted_not n es i e some lt is h = ap (are_halted n) (next_is es i e lt is) ∙ not_cons n e (drop (i + 1) es) some h
