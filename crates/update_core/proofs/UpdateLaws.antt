-- Laws of Cons and Sum.
use Rattle.std.proofs.Common.{◌≡◌, ℕ, zero, suc, ◌<◌, length, take, drop, set, get_or, ◌≤◌, ◌+◌, ℤ, Bool, true, false, cond, List, [], ◌∷◌, ◌++◌, map, max, refl, sym, ap, subst, ◌∙◌, arith}
use Rattle.std.proofs.lemmas.Bool.Decides.{nat_tests}
use Rattle.std.proofs.lemmas.Cmp.{nat_cmp_total, nat_list_cmp_total, on_total, then_total}
use Rattle.std.proofs.lemmas.Map.Lookups.{CmpEqualImpliesEq, exact_pairs, exact_unsigned, exact_bytes}
use Rattle.std.specs.Cmp.{IsTotalOrder}
use Rattle.std.specs.Cmp.Lexicographic.{slice_cmp}
use Rattle.std.specs.Ordering.{nat_cmp}
use Rattle.std.specs.Prelude.{nat_le}
use Rattle.update_core.specs.declared.updates.Update.{Update}
use Rattle.update_core.specs.declared.rows.Row.{Row}
use Rattle.std.proofs.lemmas.List.Sums.{sum_by-cons}
use Rattle.std.specs.Int.RustNames.{unsigned_abs}
use Rattle.update_core.specs.Weights.{weight}
use Rattle.update_core.specs.Totals.{IsConsolidation, consolidated}
use Rattle.update_core.specs.Frontiers.{covers, is_from}
use Rattle.std.specs.Prelude.{Option, ◌&&◌}
use Rattle.update_core.specs.Updates.{time_cmp, time_entry, update_in_time, IsSlice, slice_of, between, moment_cmp, moment_entry, datum_entry, row_entry, IsCons, IsSum, cons, sum_of, update_at, row_at, until, moved, moved_by, weight_of}
use Rattle.update_core.proofs.Consolidated.{consolidated_is, is_consolidated, consolidated-append_left}

pub moments_total : IsTotalOrder moment_cmp
moments_total = then_total (on_total (λ (m : List ℕ × ℕ). m.0) nat_list_cmp_total) (on_total (λ (m : List ℕ × ℕ). m.1) nat_cmp_total)

pub moments_exact : CmpEqualImpliesEq moment_cmp
moments_exact = exact_pairs (slice_cmp nat_cmp) nat_cmp exact_bytes exact_unsigned

pub entries_back : (es : List ((List ℕ × ℕ) × ℤ)) → map moment_entry (map update_at es) ≡ es
entries_back [] = refl
entries_back (e ∷ es) = λ i. e ∷ entries_back es i

updates_back : (us : List Update) → map update_at (map moment_entry us) ≡ us
updates_back [] = refl
updates_back (u ∷ us) = λ i. u ∷ updates_back us i

rows_back : (rs : List Row) → map row_at (map row_entry rs) ≡ rs
rows_back [] = refl
rows_back (r ∷ rs) = λ i. r ∷ rows_back rs i

pub entries-append : (us vs : List Update) → map moment_entry (us ++ vs) ≡ map moment_entry us ++ map moment_entry vs
entries-append [] vs = refl
entries-append (u ∷ us) vs = λ i. moment_entry u ∷ entries-append us vs i

-- the relation and the function say the same
pub cons_is : (us : List Update) → IsCons us (cons us)
cons_is us = subst (λ es. IsConsolidation moment_cmp (map moment_entry us) es) (sym (entries_back (consolidated moment_cmp (map moment_entry us)))) (consolidated_is moments_total (map moment_entry us))

pub is_cons : (us cs : List Update) → IsCons us cs → cs ≡ cons us
is_cons us cs h = sym (updates_back cs) ∙ ap (map update_at) (is_consolidated moments_total moments_exact (map moment_entry us) (map moment_entry cs) h)

pub is_sum : (us : List Update) (t : ℕ) (rows : List Row) → IsSum us t rows → rows ≡ sum_of us t
is_sum us t rows h = sym (rows_back rows) ∙ ap (map row_at) (is_consolidated nat_list_cmp_total exact_bytes (map datum_entry (until t us)) (map row_entry rows) h)

-- parts may be consolidated first
pub cons-append_left : (us vs : List Update) → cons (cons us ++ vs) ≡ cons (us ++ vs)
cons-append_left us vs = ap (map update_at)
    (ap (consolidated moment_cmp) (entries-append (cons us) vs ∙ ap (λ es. es ++ map moment_entry vs) (entries_back (consolidated moment_cmp (map moment_entry us))))
    ∙ consolidated-append_left moments_total moments_exact (map moment_entry us) (map moment_entry vs)
    ∙ ap (consolidated moment_cmp) (sym (entries-append us vs)))

-- a move to s changes no sum from s on
same_test : (a s t : ℕ) → s ≤ t → nat_le (max a s) t ≡ nat_le a t
same_test a s t h = grind (arith, nat_tests)

picked : (b c : Bool) (e : List ℕ × ℤ) (u v : Update) (us vs : List Update) → b ≡ c → datum_entry u ≡ datum_entry v → map datum_entry us ≡ map datum_entry vs → map datum_entry (cond b (u ∷ us) us) ≡ map datum_entry (cond c (v ∷ vs) vs)
picked true true e u v us vs p q r = λ i. q i ∷ r i
picked true false e u v us vs p q r = cc
picked false true e u v us vs p q r = cc
picked false false e u v us vs p q r = r

pub until-moved : (us : List Update) (s t : ℕ) → s ≤ t → map datum_entry (until t (moved us s)) ≡ map datum_entry (until t us)
until-moved [] s t h = refl
until-moved (u ∷ us) s t h = picked (nat_le (max u.time s) t) (nat_le u.time t) (datum_entry u) (moved_by s u) u (until t (moved us s)) (until t us) (same_test u.time s t h) refl (until-moved us s t h)

pub sum-moved : (us : List Update) (s t : ℕ) → s ≤ t → sum_of (moved us s) t ≡ sum_of us t
sum-moved us s t h = ap (λ es. map row_at (consolidated (slice_cmp nat_cmp) es)) (until-moved us s t h)

weigh : (b : Bool) (u : Update) (us : List Update) (n : ℕ) → weight (map datum_entry us) ≤ n → weight (map datum_entry (cond b (u ∷ us) us)) ≤ unsigned_abs u.diff + n
weigh true u us n h = omega (arith, sum_by-cons (λ (e : List ℕ × ℤ). unsigned_abs e.1) (datum_entry u) (map datum_entry us))
weigh false u us n h = omega arith

pub weight-until : (us : List Update) (t : ℕ) → weight (map datum_entry (until t us)) ≤ weight_of us
weight-until [] t = omega arith
weight-until (u ∷ us) t = omega (arith, weigh (nat_le u.time t) u (until t us) (weight_of us) (weight-until us t), sum_by-cons (λ (v : Update). unsigned_abs v.diff) u us)

-- one more element changed, from the front
pub changed_more : {A : Type 0} (f : A → A) (xs : List A) (i : ℕ) (d : A) → i < length xs
    → set (map f (take i xs) ++ drop i xs) i (f (get_or (map f (take i xs) ++ drop i xs) i d)) ≡ map f (take (suc i) xs) ++ drop (suc i) xs
changed_more f [] i d h = absurd (omega arith)
changed_more f (x ∷ xs) zero d h = refl
changed_more f (x ∷ xs) (suc i) d h = λ j. f x ∷ changed_more f xs i d (omega arith) j

pub times_total : IsTotalOrder time_cmp
times_total = then_total (on_total (λ (m : ℕ × List ℕ). m.0) nat_cmp_total) (on_total (λ (m : ℕ × List ℕ). m.1) nat_list_cmp_total)

pub times_exact : CmpEqualImpliesEq time_cmp
times_exact = exact_pairs nat_cmp (slice_cmp nat_cmp) exact_unsigned exact_bytes

in_time_back : (us : List Update) → map update_in_time (map time_entry us) ≡ us
in_time_back [] = refl
in_time_back (u ∷ us) = λ i. u ∷ in_time_back us i

pub is_slice : (us : List Update) (f g : Option ℕ) (cs : List Update) → IsSlice us f g cs → cs ≡ slice_of us f g
is_slice us f g cs h = sym (in_time_back cs) ∙ ap (map update_in_time) (is_consolidated times_total times_exact (map time_entry (between f g us)) (map time_entry cs) h)

weigh_in_time : (b : Bool) (u : Update) (us : List Update) (n : ℕ) → weight (map time_entry us) ≤ n → weight (map time_entry (cond b (u ∷ us) us)) ≤ unsigned_abs u.diff + n
weigh_in_time true u us n h = omega (arith, sum_by-cons (λ (e : (ℕ × List ℕ) × ℤ). unsigned_abs e.1) (time_entry u) (map time_entry us))
weigh_in_time false u us n h = omega arith

pub weight-between : (us : List Update) (f g : Option ℕ) → weight (map time_entry (between f g us)) ≤ weight_of us
weight-between [] f g = omega arith
weight-between (u ∷ us) f g = omega (arith, weigh_in_time (is_from f u.time && covers g u.time) u (between f g us) (weight_of us) (weight-between us f g), sum_by-cons (λ (v : Update). unsigned_abs v.diff) u us)
