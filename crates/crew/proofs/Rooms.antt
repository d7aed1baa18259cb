-- A pass has a number for each seat.
use Rattle.std.proofs.lemmas.Nat.{pow_pos}
use Rattle.std.proofs.Common.{◌≡◌, ℕ, suc, ◌+◌, ◌*◌, ◌^◌, ◌<◌, ◌≤◌, List, ◌∷◌, length, subst, arith, pow-suc}

two : (n : ℕ) → 2 ^ (suc n) ≡ 2 ^ n * 2
two n = pow-suc 2 n

one_at_least : (n : ℕ) → 0 < 2 ^ n
one_at_least n = pow_pos n

pub some_room : {A : Type 0} (xs ys : List A) (x : A) (stock : ℕ) → xs ≡ x ∷ ys → 2 ^ length xs ≤ stock + 1 → 0 < stock
some_room xs ys x stock e h =
    let k : 2 ^ suc (length ys) ≤ stock + 1 = subst (λ (zs : List _). 2 ^ length zs ≤ stock + 1) e h in
    let t = two (length ys) in
    let o = one_at_least (length ys) in
    omega arith

pub more_room : {A : Type 0} (xs ys : List A) (x : A) (stock now : ℕ) → xs ≡ x ∷ ys → 2 ^ length xs ≤ stock + 1 →
    stock + 1 ≤ 2 * (now + 1) → 2 ^ length ys ≤ now + 1
more_room xs ys x stock now e h less =
    let k : 2 ^ suc (length ys) ≤ stock + 1 = subst (λ (zs : List _). 2 ^ length zs ≤ stock + 1) e h in
    let t = two (length ys) in
    omega arith
