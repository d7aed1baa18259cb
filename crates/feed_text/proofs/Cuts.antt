-- Cuts of a list at the first element of a kind.
use Rattle.std.proofs.Common.{◌≡◌, ◌≢◌, ℕ, ◌+◌, ◌<◌, ◌≤◌, Bool, true, false, cond, eqb, ltb, Some, None, List, [], ◌∷◌, ◌++◌, length, take, drop, get_or, refl, sym, ap, ◌∙◌, arith}
use Rattle.std.proofs.lemmas.Bool.Decides.{nat_tests}
use Rattle.std.proofs.lemmas.List.{take-append-drop, drop_more, get_or-take, length-take}
use Rattle.std.proofs.lemmas.List.Elements.{All-from_get_or, recursion_from_All}
use Rattle.std.proofs.lemmas.List.Quantifiers.{position-Some}
use Rattle.std.proofs.lemmas.List.Sums.{fails_before_first}
use Rattle.std.specs.List.{AllByRecursion, position, position_or_len}
use borrow.Author.Tests.{eqb-false, eqb-true}

-- a list with no such element
abbrev pub Lacks : ℕ → List ℕ → Type 0
Lacks byte text = AllByRecursion (λ x. x ≢ byte) text

lacks_by_index : (byte : ℕ) (text : List ℕ) → ((k : ℕ) → k < length text → eqb (get_or text k 0) byte ≡ false) → Lacks byte text
lacks_by_index byte text h = recursion_from_All (λ x. x ≢ byte) text (All-from_get_or (λ x. x ≢ byte) text 0 (λ k l. eqb-false (get_or text k 0) byte (h k l)))

pub cut_here : (byte : ℕ) (text : List ℕ) (k : ℕ) → position (λ x. eqb x byte) text ≡ Some k → text ≡ take k text ++ byte ∷ drop (k + 1) text
cut_here byte text k h =
    let at = position-Some (λ x. eqb x byte) text k 0 h in
    sym (take-append-drop k text) ∙ ap (λ l. take k text ++ l) (drop_more text k 0 at.0) ∙ ap (λ b. take k text ++ b ∷ drop (k + 1) text) (eqb-true (get_or text k 0) byte at.1)

pub cut_first : (byte : ℕ) (text : List ℕ) (k : ℕ) → position (λ x. eqb x byte) text ≡ Some k → Lacks byte (take k text)
cut_first byte text k h =
    let at = position-Some (λ x. eqb x byte) text k 0 h in
    lacks_by_index byte (take k text) (λ i l.
    let under : i < k = omega (arith, length-take k text) in
    ap (λ b. eqb b byte) (get_or-take k text i 0 under) ∙ at.2 i under)

found_none : (b : Bool) (n : ℕ) → cond b (Some n) None ≡ None → b ≡ false
found_none true n h = cc
found_none false n h = refl

pub cut_none : (byte : ℕ) (text : List ℕ) → position (λ x. eqb x byte) text ≡ None → Lacks byte text
cut_none byte text h =
    let p = λ (x : ℕ). eqb x byte in
    let n = position_or_len p text in
    let far : ltb n (length text) ≡ false = found_none (ltb n (length text)) n h in
    let past : length text ≤ n = grind (arith, nat_tests) in
    lacks_by_index byte text (λ k l. fails_before_first p text k 0 (omega arith))

-- what lacks an element isn't cut at it
pub no_cut : (byte : ℕ) (text front rest : List ℕ) → Lacks byte text → text ≡ front ++ byte ∷ rest → ⊥
no_cut byte [] [] rest h e = cc
no_cut byte [] (b ∷ front) rest h e = cc
no_cut byte (c ∷ text) [] rest h e = h.0 (cc)
no_cut byte (c ∷ text) (b ∷ front) rest h e =
    let tails : text ≡ front ++ byte ∷ rest = cc in
    no_cut byte text front rest h.1 tails

pub lacks_end : (byte : ℕ) (front rest : List ℕ) → Lacks byte (front ++ rest) → Lacks byte rest
lacks_end byte [] rest h = h
lacks_end byte (b ∷ front) rest h = lacks_end byte front rest h.1
