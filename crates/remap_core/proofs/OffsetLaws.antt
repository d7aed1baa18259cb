-- Laws of offsets.
use Rattle.std.proofs.Common.{◌≡◌, ℕ, zero, suc, ◌<◌, ◌≤◌, ◌^◌, List, length, replicate, true, false, refl, subst, arith}
use Rattle.std.proofs.lemmas.Bool.Decides.{nat_tests}
use Rattle.std.proofs.lemmas.List.{get_or_past}
use Rattle.std.specs.List.{AllByRecursion}
use Rattle.std.specs.Prelude.{nat_lt}
use Rattle.remap_core.specs.Offsets.{offset, covered, unset, IsOffsets, NoneFalls}

zeros_within : (n : ℕ) → AllByRecursion (λ o. o ≤ 2 ^ 48) (replicate n 0)
zeros_within zero = tt
zeros_within (suc n) = (omega arith, zeros_within n)

zeros_length : (n : ℕ) → length {A = ℕ} (replicate n 0) ≡ n
zeros_length zero = refl
zeros_length (suc n) = omega (arith, zeros_length n)

pub unset_is : IsOffsets unset
unfolding unset
unset_is = record { partitions = zeros_length 256; within = zeros_within 256 }

-- no partition past those that were looked at falls, since there is none
pub none_falls_at_all : (f g : List ℕ) → length f ≡ 256 → ((q : ℕ) → q < 256 → offset f q ≤ offset g q) → NoneFalls f g
none_falls_at_all f g n h p = elim (nat_lt p 256) as (λ b. nat_lt p 256 ≡ b → offset f p ≤ offset g p) [
  | true ↦ λ e. h p (grind (arith, nat_tests))
  | false ↦ λ e. omega (arith, get_or_past f p 0 (grind (arith, nat_tests)))
] refl

-- the same, where the last partition was looked at after those before it
pub none_falls_with : (f g : List ℕ) (last : ℕ) → length f ≡ 256 → ((q : ℕ) → q < last → offset f q ≤ offset g q)
    → offset f last ≤ offset g last → 255 ≤ last → NoneFalls f g
none_falls_with f g last n h here end =
    none_falls_at_all f g n (λ q s. elim (nat_lt q last) as (λ b. nat_lt q last ≡ b → q < 256 → offset f q ≤ offset g q) [
      | true ↦ λ e s. h q (grind (arith, nat_tests))
      | false ↦ λ e s. subst (λ k. offset f k ≤ offset g k) (is_last q last e s end) here
    ] refl s)
  where
    is_last : (q last : ℕ) → nat_lt q last ≡ false → q < 256 → 255 ≤ last → last ≡ q
    is_last q last e s end = grind (arith, nat_tests)

-- what was covered stays covered
pub covered_later : (f g : List ℕ) (p o : ℕ) → NoneFalls f g → covered g p o ≡ false → covered f p o ≡ false
covered_later f g p o h e = still (offset f p) (offset g p) o (h p) e
  where
    still : (a b o : ℕ) → a ≤ b → nat_lt o b ≡ false → nat_lt o a ≡ false
    still a b o h e = grind (arith, nat_tests)
