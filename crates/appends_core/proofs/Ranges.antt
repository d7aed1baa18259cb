-- Rows that are in a range, one by one.
use Rattle.std.proofs.Common.{◌≡◌, ◌⊎◌, ◌↔◌, ℕ, suc, ◌≤◌, Bool, true, false, ◌&&◌, Option, Some, List, [], ◌∷◌, length, refl, ap, inl, inr, arith, sym, subst, IsTrue}
use Rattle.std.specs.Prelude.{nat_le}
use Rattle.std.proofs.lemmas.Bool.Decides.{nat_tests}
use Rattle.std.specs.List.{AllByRecursion}
use Rattle.update_core.specs.declared.updates.Update.{Update}
use Rattle.update_core.specs.declared.appends.FeedAppend.{FeedAppend}
use Rattle.update_core.specs.Frontiers.{covers}
use Rattle.update_core.specs.Updates.{between}
use Rattle.appends_core.specs.Feeds.{IsFit, IsWithin}

bool_cases : (b : Bool) → (b ≡ true) ⊎ (b ≡ false)
bool_cases true = inl refl
bool_cases false = inr refl

both : (a b : Bool) → (a && b) ≡ true → (a ≡ true) × (b ≡ true)
both true b h = (refl, h)
both false b h = absurd (let bad : false ≡ true = h in cc)

below : (a b : ℕ) → nat_le a b ≡ true → a ≤ b
below a b h = grind (arith, nat_tests)

above : (a b : ℕ) → a ≤ b → nat_le a b ≡ true
above a b h = grind (arith, nat_tests)

between_length : (lower : ℕ) (upper : Option ℕ) (us : List Update) → length (between (Some lower) upper us) ≤ length us
between_length lower upper [] = omega arith
between_length lower upper (u ∷ us) = elim (bool_cases (nat_le lower u.time && covers upper u.time)) [
  | inl e ↦ let le = between_length lower upper us in rw e (omega arith)
  | inr e ↦ let le = between_length lower upper us in rw e (omega arith)
]

pub all_within : (lower : ℕ) (upper : Option ℕ) (us : List Update) → between (Some lower) upper us ≡ us →
    AllByRecursion (IsWithin lower upper) us
all_within lower upper [] h = tt
all_within lower upper (u ∷ us) h = elim (bool_cases (nat_le lower u.time && covers upper u.time)) [
  | inl e ↦
      let h2 : u ∷ between (Some lower) upper us ≡ u ∷ us = rw e at h in
      let h3 : between (Some lower) upper us ≡ us = cc in
      let k = both (nat_le lower u.time) (covers upper u.time) e in
      ((below lower u.time k.0, k.1), all_within lower upper us h3)
  | inr e ↦
      let h2 : between (Some lower) upper us ≡ u ∷ us = rw e at h in
      let n : length (between (Some lower) upper us) ≡ suc (length us) = ap length h2 in
      let le = between_length lower upper us in
      absurd (omega arith)
]

pub within_all : (lower : ℕ) (upper : Option ℕ) (us : List Update) → AllByRecursion (IsWithin lower upper) us →
    between (Some lower) upper us ≡ us
within_all lower upper [] h = refl
within_all lower upper (u ∷ us) h =
    rw (above lower u.time h.0.0, h.0.1) (ap (λ (vs : List Update). u ∷ vs) (within_all lower upper us h.1))

-- an append of few rows is fit where each of them is in its range
pub fit_by : (a : FeedAppend) (rows : List Update) (r : Bool) → rows ≡ a.rows → length rows ≤ 65536 →
    (IsTrue r ↔ AllByRecursion (IsWithin a.lower a.upper) rows) → IsTrue r ↔ IsFit a
fit_by a rows r is few k = (
  λ t. record {
    in_range = within_all a.lower a.upper a.rows (subst (AllByRecursion (IsWithin a.lower a.upper)) is (k.0 t));
    few = subst (λ (us : List Update). length us ≤ 65536) is few;
  },
  λ fit. k.1 (subst (AllByRecursion (IsWithin a.lower a.upper)) (sym is) (all_within a.lower a.upper a.rows fit.in_range)),
)
