-- What a writer has written.
use Rattle.std.proofs.Common.{◌≡◌, ℕ, ◌+◌, ◌<◌, List, [], ◌∷◌, ◌++◌, length, take, get_or, sym, ap, subst, ◌∙◌, append_assoc}
use Rattle.std.specs.List.{flat_map, AllByRecursion}
use Rattle.std.proofs.lemmas.Grind.{flat_map-append}
use Rattle.std.proofs.lemmas.List.{append-nil, take_more}
use Rattle.std.proofs.lemmas.List.Concat.{flat_map-cons}
use Rattle.update_core.specs.declared.updates.Update.{Update}
use Rattle.part_codec.specs.Parts.{row_bytes, Fits}

-- a row, field by field
pub row_put : (out d t e : List ℕ) (n : ℕ) → (((out ++ n ∷ []) ++ d) ++ t) ++ e ≡ out ++ (n ∷ (d ++ (t ++ e)))
row_put out d t e n = simp append_assoc

-- one row more
pub rows_put : (head out : List ℕ) (rows : List Update) (i : ℕ) (row : Update) → i < length rows → row ≡ get_or rows i row → out ≡ head ++ flat_map row_bytes (take i rows)
    → out ++ row_bytes row ≡ head ++ flat_map row_bytes (take (i + 1) rows)
rows_put head out rows i row lt is so_far =
    let before = flat_map row_bytes (take i rows) in
    let more : take (i + 1) rows ≡ take i rows ++ row ∷ [] = take_more rows i row lt ∙ ap (λ (r : Update). take i rows ++ r ∷ []) (sym is) in
    let one : flat_map row_bytes (row ∷ []) ≡ row_bytes row = flat_map-cons row_bytes row [] ∙ append-nil (row_bytes row) in
    let joined : flat_map row_bytes (take (i + 1) rows) ≡ before ++ row_bytes row = ap (flat_map row_bytes) more ∙ flat_map-append row_bytes (take i rows) (row ∷ []) ∙ ap (λ (x : List ℕ). before ++ x) one in
    ap (λ (o : List ℕ). o ++ row_bytes row) so_far ∙ append_assoc head before (row_bytes row) ∙ ap (λ (x : List ℕ). head ++ x) (sym joined)

fit_push : (rows : List Update) (row : Update) → AllByRecursion Fits rows → Fits row → AllByRecursion Fits (rows ++ row ∷ [])
fit_push [] row h f = (f, tt)
fit_push (r ∷ rows) row h f = (h.0, fit_push rows row h.1 f)

-- one row more fits
pub rows_fit : (rows : List Update) (i : ℕ) (row : Update) → i < length rows → row ≡ get_or rows i row → AllByRecursion Fits (take i rows) → Fits row → AllByRecursion Fits (take (i + 1) rows)
rows_fit rows i row lt is h f =
    let more : take (i + 1) rows ≡ take i rows ++ row ∷ [] = take_more rows i row lt ∙ ap (λ (r : Update). take i rows ++ r ∷ []) (sym is) in
    subst (λ (rs : List Update). AllByRecursion Fits rs) (sym more) (fit_push (take i rows) row h f)
