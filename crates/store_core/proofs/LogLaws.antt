-- Laws of numbered versions.
use Rattle.std.proofs.Common.{◌≡◌, ℕ, zero, suc, ◌+◌, ◌-◌, ◌<◌, ◌≤◌, true, false, cond, min, Some}
use Rattle.std.proofs.Common.{List, [], ◌∷◌, length, get_or, drop, refl, ap, ◌∙◌, arith}
use Rattle.std.specs.Prelude.{filter, nat_le}
use Rattle.std.proofs.lemmas.Bool.Decides.{nat_tests}
use Rattle.store_core.specs.declared.versions.Version.{Version}
use Rattle.store_core.specs.Stores.{numbered, last_of}

pub last_of-numbered : (n : ℕ) (bs : List (List ℕ)) (m : ℕ) (d : List ℕ) → length bs ≡ suc m → last_of (numbered n bs) ≡ Some (record { number = n + m; bytes = get_or bs m d })
last_of-numbered n [] m d h = absurd (omega arith)
last_of-numbered n (b ∷ []) zero d h = ap (λ k. Some (record { number = k; bytes = b })) (omega arith)
last_of-numbered n (b ∷ []) (suc m) d h = absurd (omega arith)
last_of-numbered n (b ∷ c ∷ bs) zero d h = absurd (omega arith)
last_of-numbered n (b ∷ c ∷ bs) (suc m) d h =
    let sum : n + 1 + m ≡ n + suc m = omega arith in
    last_of-numbered (n + 1) (c ∷ bs) m d (omega arith) ∙ ap (λ k. Some (record { number = k; bytes = get_or (c ∷ bs) m d })) sum

-- no version is below from
all_pass : (from n : ℕ) (vs : List (List ℕ)) → from ≤ n → filter (λ v. nat_le from v.number) (numbered n vs) ≡ numbered n vs
all_pass from n [] h = refl
all_pass from n (b ∷ bs) h =
    let is : nat_le from n ≡ true = grind (arith, nat_tests) in
    let this : Version = record { number = n; bytes = b } in
    let rest = filter (λ v. nat_le from v.number) (numbered (n + 1) bs) in
    ap (λ t. cond t (this ∷ rest) rest) is ∙ ap (λ l. this ∷ l) (all_pass from (n + 1) bs (omega arith))

-- the versions from a number on begin at its place
pub scan_begins : (from n : ℕ) (vs : List (List ℕ)) (place : ℕ) → place ≡ min (from - n) (length vs) →
    filter (λ v. nat_le from v.number) (numbered n vs) ≡ numbered (n + place) (drop place vs)
scan_begins from n [] zero h = refl
scan_begins from n [] (suc k) h = absurd (omega arith)
scan_begins from n (b ∷ bs) zero h = all_pass from n (b ∷ bs) (omega arith) ∙ ap (λ k. numbered k (b ∷ bs)) (omega arith)
scan_begins from n (b ∷ bs) (suc k) h =
    let later : n < from = omega arith in
    let is : nat_le from n ≡ false = grind (arith, nat_tests) in
    let this : Version = record { number = n; bytes = b } in
    let rest = filter (λ v. nat_le from v.number) (numbered (n + 1) bs) in
    let place : k ≡ min (from - (n + 1)) (length bs) = omega arith in
    ap (λ t. cond t (this ∷ rest) rest) is ∙ scan_begins from (n + 1) bs k place ∙ ap (λ m. numbered m (drop k bs)) (omega arith)
