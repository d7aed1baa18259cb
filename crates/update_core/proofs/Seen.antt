-- A consolidation by keys that are seen through a function.
use Rattle.std.proofs.Common.{◌≡◌, ◌≢◌, ℤ, pos, ◌+ℤ◌, cond, List, [], ◌∷◌, map, refl, sym, ap, subst, ◌∙◌}
use Rattle.std.specs.declared.cmp.Ordering.{Ordering}
use Rattle.std.specs.declared.cmp.Ordering.TheVariants.{Less}
use Rattle.std.specs.Map.{keys_of}
use Rattle.std.specs.Ordering.{eq_by_cmp}
use Rattle.std.specs.List.{AllByRecursion}
use Rattle.std.specs.List.Sorted.{IsStrictlySortedBy}
use Rattle.std.proofs.Common.{ℕ, ◌≤◌, ◌^◌, arith}
use Rattle.std.proofs.lemmas.List.Sums.{sum_by-cons}
use Rattle.std.specs.Borrow.{Bor}
use Rattle.std.specs.Cmp.Lexicographic.{slice_cmp}
use Rattle.std.specs.Int.RustNames.{unsigned_abs}
use Rattle.std.specs.Ordering.{nat_cmp}
use Rattle.update_core.specs.declared.rows.Row.{Row}
use Rattle.update_core.specs.declared.updates.Update.{Update}
use Rattle.update_core.specs.Totals.{total, IsConsolidation}
use Rattle.std.specs.Prelude.{Option}
use Rattle.update_core.specs.Updates.{seen_datum, seen_time, datum_entry, time_entry, time_cmp, row_entry, until, between, IsSum, IsSlice, weight_of}
use Rattle.update_core.specs.Weights.{weight}
use Rattle.update_core.proofs.UpdateLaws.{weight-until, weight-between}

-- the entry with its key seen through f
abbrev pub seen : {J K : Type 0} → (J → K) → J × ℤ → K × ℤ
seen f e = (f e.0, e.1)

module _ {J K : Type 0} (R : K → K → Ordering) (f : J → K) where
  -- the order of what is seen
  abbrev pub through : J → J → Ordering
  through x y = R (f x) (f y)

  total-seen : (es : List (J × ℤ)) (x : J) → total R (map (seen f) es) (f x) ≡ total through es x
  total-seen [] x = refl
  total-seen (e ∷ es) x = ap (λ t. cond (eq_by_cmp R (f x) (f e.0)) e.1 (pos 0) +ℤ t) (total-seen es x)

  less_than_all : (x : J) (es : List (J × ℤ)) → AllByRecursion (λ y. R (f x) (f y) ≡ Less) (keys_of es) → AllByRecursion (λ k. R (f x) k ≡ Less) (keys_of (map (seen f) es))
  less_than_all x [] all = tt
  less_than_all x (e ∷ es) all = (all.0, less_than_all x es all.1)

  pub rising-seen : (es : List (J × ℤ)) → IsStrictlySortedBy through (keys_of es) → IsStrictlySortedBy R (keys_of (map (seen f) es))
  unfolding IsStrictlySortedBy
  rising-seen [] up = tt
  rising-seen (e ∷ es) up = (less_than_all e.0 es up.0, rising-seen es up.1)

  nonzero-seen : (es : List (J × ℤ)) → AllByRecursion (λ e. e.1 ≢ pos 0) es → AllByRecursion (λ e. e.1 ≢ pos 0) (map (seen f) es)
  nonzero-seen [] all = tt
  nonzero-seen (e ∷ es) all = (all.0, nonzero-seen es all.1)

  -- where each key is seen from somewhere, what was consolidated by what is seen is a consolidation
  pub consolidation-seen : (g : K → J) → ((k : K) → f (g k) ≡ k) → (es cs : List (J × ℤ)) → IsConsolidation through es cs → IsConsolidation R (map (seen f) es) (map (seen f) cs)
  consolidation-seen g back es cs h = record {
    rising = rising-seen cs h.rising;
    nonzero = nonzero-seen cs h.nonzero;
    same = λ k. subst (λ q. total R (map (seen f) cs) q ≡ total R (map (seen f) es) q) (back k) (total-seen cs (g k) ∙ h.same (g k) ∙ sym (total-seen es (g k)));
  }

weight-seen : {J K : Type 0} (f : J → K) (es : List (J × ℤ)) → weight (map (seen f) es) ≡ weight es
weight-seen f [] = refl
weight-seen {J} {K} f (e ∷ es) = omega (arith, weight-seen f es, sum_by-cons (λ (x : J × ℤ). unsigned_abs x.1) e es, sum_by-cons (λ (x : K × ℤ). unsigned_abs x.1) (seen f e) (map (seen f) es))

borrowed : List ℕ → Bor (List ℕ)
borrowed d = record { ref_ptr = (0, 0); now = d }

datum_of_borrowed : (d : List ℕ) → (borrowed d).now ≡ d
unfolding borrowed
datum_of_borrowed d = refl

-- what borrowed data weigh
pub weight_until-seen : (us : List Update) (t : ℕ) (es : List (Bor (List ℕ) × ℤ)) → map seen_datum es ≡ map datum_entry (until t us) → weight_of us ≤ 2 ^ 62 → weight es ≤ 2 ^ 62
weight_until-seen us t es is room = omega (arith, room, weight-until us t, ap weight is, weight-seen (λ (b : Bor (List ℕ)). b.now) es)

-- borrowed data may be consolidated, and only the data of the sum be copied
pub sum-seen : (us : List Update) (t : ℕ) (es cs : List (Bor (List ℕ) × ℤ)) (out : List Row) → map seen_datum es ≡ map datum_entry (until t us)
    → IsConsolidation (λ x y. slice_cmp nat_cmp x.now y.now) es cs → map row_entry out ≡ map seen_datum cs → IsSum us t out
sum-seen us t es cs out is c made =
    subst (λ xs. IsConsolidation (slice_cmp nat_cmp) xs (map row_entry out)) is
    (subst (λ ys. IsConsolidation (slice_cmp nat_cmp) (map seen_datum es) ys) (sym made)
    (consolidation-seen (slice_cmp nat_cmp) (λ (b : Bor (List ℕ)). b.now) borrowed datum_of_borrowed es cs c))

in_time : ℕ × Bor (List ℕ) → ℕ × List ℕ
in_time m = (m.0, m.1.now)

borrowed_in_time : ℕ × List ℕ → ℕ × Bor (List ℕ)
borrowed_in_time m = (m.0, record { ref_ptr = (0, 0); now = m.1 })

moment_of_borrowed : (m : ℕ × List ℕ) → in_time (borrowed_in_time m) ≡ m
unfolding in_time borrowed_in_time
moment_of_borrowed m = refl

pub weight_between-seen : (us : List Update) (f g : Option ℕ) (es : List ((ℕ × Bor (List ℕ)) × ℤ)) → map seen_time es ≡ map time_entry (between f g us) → weight_of us ≤ 2 ^ 62 → weight es ≤ 2 ^ 62
unfolding in_time
weight_between-seen us f g es is room = omega (arith, room, weight-between us f g, ap weight is, weight-seen in_time es)

pub slice-seen : (us : List Update) (f g : Option ℕ) (es cs : List ((ℕ × Bor (List ℕ)) × ℤ)) (out : List Update) → map seen_time es ≡ map time_entry (between f g us)
    → IsConsolidation (λ x y. time_cmp (x.0, x.1.now) (y.0, y.1.now)) es cs → map time_entry out ≡ map seen_time cs → IsSlice us f g out
unfolding in_time
slice-seen us f g es cs out is c made =
    subst (λ xs. IsConsolidation time_cmp xs (map time_entry out)) is
    (subst (λ ys. IsConsolidation time_cmp (map seen_time es) ys) (sym made)
    (consolidation-seen time_cmp in_time borrowed_in_time moment_of_borrowed es cs c))
