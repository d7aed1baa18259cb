-- A frontier is a time, or Closed, which is None.
use Rattle.std.specs.Prelude.{◌≡◌, ℕ, ◌+◌, ◌-◌, ◌^◌, Bool, true, false, Option, Some, None, nat_lt, nat_le, ◌==◌, if◌then◌else◌, refl}
use Rattle.std.specs.declared.cmp.Ordering.{Ordering}
use Rattle.std.specs.declared.cmp.Ordering.TheVariants.{Less, Equal, Greater}
use Rattle.std.specs.Ordering.{nat_cmp, eq_by_cmp, ordering_reverse}
use Rattle.std.specs.Cmp.{IsTotalOrder, IsEquivalence, eq_by_cmp_equiv}
use Rattle.std.proofs.lemmas.Cmp.{nat_cmp_total}
use Rattle.std.proofs.Common.{sym, subst}
use Rattle.std.specs.Cmp.{unsigned_tied}

-- Closed covers each time, and a time those before it
abbrev pub covers : Option ℕ → ℕ → Bool
covers None t = true
covers (Some f) t = nat_lt t f

-- the time is from the frontier on; no time is past Closed
abbrev pub is_from : Option ℕ → ℕ → Bool
is_from None t = false
is_from (Some f) t = nat_le f t

-- the frontier is this time
abbrev pub is_at : Option ℕ → ℕ → Bool
is_at None t = false
is_at (Some f) t = f == t

-- the frontier that covers t and nothing after it
abbrev pub after : ℕ → Option ℕ
after t = if nat_lt t (2 ^ 64 - 1) then Some (t + 1) else None

-- by time, Closed last
abbrev pub frontier_cmp : Option ℕ → Option ℕ → Ordering
frontier_cmp None None = Equal
frontier_cmp None (Some b) = Greater
frontier_cmp (Some a) None = Less
frontier_cmp (Some a) (Some b) = nat_cmp a b

-- the same time, or both Closed
abbrev pub frontier_eq : Option ℕ → Option ℕ → Bool
frontier_eq None None = true
frontier_eq None (Some b) = false
frontier_eq (Some a) None = false
frontier_eq (Some a) (Some b) = a == b

-- two frontiers are equal where neither is before the other
pub frontier_ties : (x y : Option ℕ) → frontier_eq x y ≡ eq_by_cmp frontier_cmp x y
frontier_ties None None = refl
frontier_ties None (Some b) = refl
frontier_ties (Some a) None = refl
frontier_ties (Some a) (Some b) = sym (unsigned_tied a b)

-- frontiers are in one order
pub frontier_total : IsTotalOrder frontier_cmp
frontier_total = record { antisymm = turned; trans = chained; congr = alike }
  where
    turned : (x y : Option ℕ) → frontier_cmp x y ≡ ordering_reverse (frontier_cmp y x)
    turned None None = refl
    turned None (Some b) = refl
    turned (Some a) None = refl
    turned (Some a) (Some b) = nat_cmp_total.antisymm a b

    chained : (x y z : Option ℕ) → frontier_cmp x y ≡ Less → frontier_cmp y z ≡ Less → frontier_cmp x z ≡ Less
    chained None None z p q = cc
    chained None (Some b) z p q = cc
    chained (Some a) None None p q = cc
    chained (Some a) None (Some c) p q = cc
    chained (Some a) (Some b) None p q = refl
    chained (Some a) (Some b) (Some c) p q = nat_cmp_total.trans a b c p q

    alike : (x y z : Option ℕ) → frontier_cmp x y ≡ Equal → frontier_cmp x z ≡ frontier_cmp y z
    alike None None z p = refl
    alike None (Some b) z p = cc
    alike (Some a) None z p = cc
    alike (Some a) (Some b) None p = refl
    alike (Some a) (Some b) (Some c) p = nat_cmp_total.congr a b c p

-- to be the same frontier is an equivalence
pub frontier_equiv : IsEquivalence frontier_eq
frontier_equiv = subst (λ (e : Option ℕ → Option ℕ → Bool). IsEquivalence e) (λ i x y. sym (frontier_ties x y) i) (eq_by_cmp_equiv frontier_total)
