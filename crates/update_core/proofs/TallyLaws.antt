-- What consolidation keeps: each sum of the differences at the keys that pass a test.
use Rattle.std.proofs.Common.{◌≡◌, ℕ, ℤ, pos, ◌+ℤ◌, ◌≤◌, Bool, true, false, cond, not, ◌&&◌, ◌||◌, Option, Some, None, List, [], ◌∷◌, ◌++◌, map, max, refl, sym, ap, ◌∙◌, arith}
use Rattle.std.proofs.Math.IntN.{+ℤ_idl, +ℤ_assoc}
use Rattle.std.proofs.lemmas.Bool.Decides.{nat_tests}
use Rattle.std.proofs.lemmas.Cmp.{nat_list_cmp_total}
use Rattle.std.proofs.lemmas.List.Sums.{sum_by-cons}
use Rattle.std.proofs.lemmas.Map.Lookups.{CmpEqualImpliesEq, exact_bytes}
use Rattle.std.specs.declared.cmp.Ordering.{Ordering}
use Rattle.std.specs.declared.cmp.Ordering.TheVariants.{Less, Equal, Greater}
use Rattle.std.specs.Cmp.Lexicographic.{slice_cmp}
use Rattle.std.specs.Int.RustNames.{unsigned_abs}
use Rattle.std.specs.List.{filter}
use Rattle.std.specs.Ordering.{eq_by_cmp, int_eq, is_gt, match_ordering, nat_cmp}
use Rattle.std.specs.Prelude.{nat_le}
use Rattle.update_core.specs.declared.updates.Update.{Update}
use Rattle.update_core.specs.Frontiers.{covers, is_from, frontier_cmp}
use Rattle.update_core.specs.Totals.{total, added, consolidated}
use Rattle.update_core.specs.Updates.{moment_cmp, moment_entry, time_cmp, time_entry, update_in_time, datum_entry, row_at, update_at, until, between, cons, sum_of, slice_of, moved, moved_by, weight_of}
use Rattle.update_core.proofs.Consolidated.{is_zero, cond_zero, cond_sum, swapped, consolidated_from_totals}
use Rattle.update_core.proofs.UpdateLaws.{moments_total, moments_exact, times_total, times_exact, entries_back, entries-append, until-moved}
use Rattle.update_core.proofs.SliceLaws.{covered_on, from_before, apart, parts_of, exclusive, shared}

-- the sum of the differences at the keys that pass a test
pub tally : {K : Type 0} → (K → Bool) → List (K × ℤ) → ℤ
tally p [] = pos 0
tally p (e ∷ es) = cond (p e.0) e.1 (pos 0) +ℤ tally p es

module _ {K : Type 0} (p : K → Bool) where
  tally_unless_zero : (b : Bool) (k : K) (d : ℤ) (es : List (K × ℤ)) → (b ≡ true → d ≡ pos 0) → tally p (cond b es ((k, d) ∷ es)) ≡ cond (p k) d (pos 0) +ℤ tally p es
  unfolding tally
  tally_unless_zero true k d es h = sym (ap (λ z. z +ℤ tally p es) (cond_zero (p k) d (h refl)) ∙ +ℤ_idl _)
  tally_unless_zero false k d es h = refl

  pub tally-append : (xs ys : List (K × ℤ)) → tally p (xs ++ ys) ≡ tally p xs +ℤ tally p ys
  unfolding tally
  tally-append [] ys = sym (+ℤ_idl _)
  tally-append (x ∷ xs) ys = ap (λ t. cond (p x.0) x.1 (pos 0) +ℤ t) (tally-append xs ys) ∙ sym (+ℤ_assoc _ (tally p xs) (tally p ys))

  module _ {R : K → K → Ordering} (exact : CmpEqualImpliesEq R) where
    tally-added : (k : K) (d : ℤ) (es : List (K × ℤ)) → tally p (added R k d es) ≡ cond (p k) d (pos 0) +ℤ tally p es
    unfolding tally
    tally-added k d [] = tally_unless_zero (int_eq d (pos 0)) k d [] (is_zero d)
    tally-added k d (e ∷ es) =
        elim (R k e.0) as (λ r. R k e.0 ≡ r → tally p (match_ordering r (cond (int_eq d (pos 0)) (e ∷ es) ((k, d) ∷ e ∷ es)) (cond (int_eq (d +ℤ e.1) (pos 0)) es ((e.0, d +ℤ e.1) ∷ es)) (e ∷ added R k d es)) ≡ cond (p k) d (pos 0) +ℤ tally p (e ∷ es)) [
          | Less ↦ λ is. tally_unless_zero (int_eq d (pos 0)) k d (e ∷ es) (is_zero d)
          | Equal ↦ λ is. tally_unless_zero (int_eq (d +ℤ e.1) (pos 0)) e.0 (d +ℤ e.1) es (is_zero (d +ℤ e.1))
              ∙ cond_sum (p e.0) d e.1 (tally p es)
              ∙ ap (λ x. cond (p x) d (pos 0) +ℤ (cond (p e.0) e.1 (pos 0) +ℤ tally p es)) (sym (exact k e.0 is))
          | Greater ↦ λ is. ap (λ t. cond (p e.0) e.1 (pos 0) +ℤ t) (tally-added k d es) ∙ swapped (cond (p e.0) e.1 (pos 0)) (cond (p k) d (pos 0)) (tally p es)
        ] refl

    -- consolidation keeps each such sum
    pub tally-consolidated : (es : List (K × ℤ)) → tally p (consolidated R es) ≡ tally p es
    unfolding consolidated tally
    tally-consolidated [] = refl
    tally-consolidated (e ∷ es) = tally-added e.0 e.1 (consolidated R es) ∙ ap (λ t. cond (p e.0) e.1 (pos 0) +ℤ t) (tally-consolidated es)

-- the same of updates, by their datum and time
pub tally_of : (List ℕ × ℕ → Bool) → List Update → ℤ
tally_of p us = tally p (map moment_entry us)

pub tally_of-cons : (p : List ℕ × ℕ → Bool) (us : List Update) → tally_of p (cons us) ≡ tally_of p us
unfolding tally_of
tally_of-cons p us = ap (tally p) (entries_back (consolidated moment_cmp (map moment_entry us))) ∙ tally-consolidated p moments_exact (map moment_entry us)

pub tally_of-append : (p : List ℕ × ℕ → Bool) (us vs : List Update) → tally_of p (us ++ vs) ≡ tally_of p us +ℤ tally_of p vs
unfolding tally_of
tally_of-append p us vs = ap (tally p) (entries-append us vs) ∙ tally-append p (map moment_entry us) (map moment_entry vs)

-- a filter's sums are sums by one more test
picked : (b c : Bool) (d t : ℤ) → cond (b && c) d (pos 0) +ℤ t ≡ cond b (cond c d (pos 0) +ℤ t) t
picked true c d t = refl
picked false c d t = +ℤ_idl t

chosen : {K : Type 0} (R : K → K → Ordering) (b : Bool) (e : K × ℤ) (es : List (K × ℤ)) (k : K) (t : ℤ) → total R es k ≡ t
    → total R (cond b (e ∷ es) es) k ≡ cond b (cond (eq_by_cmp R k e.0) e.1 (pos 0) +ℤ t) t
chosen R true e es k t h = ap (λ s. cond (eq_by_cmp R k e.0) e.1 (pos 0) +ℤ s) h
chosen R false e es k t h = h

mapped : {A B : Type 0} (f : A → B) (b : Bool) (x : A) (xs : List A) → map f (cond b (x ∷ xs) xs) ≡ cond b (f x ∷ map f xs) (map f xs)
mapped f true x xs = refl
mapped f false x xs = refl

module _ {K : Type 0} (R : K → K → Ordering) (r : List ℕ × ℕ → Bool) (key : List ℕ × ℕ → K) where
  total-filter : (us : List Update) (k : K) → total R (map (λ u. (key (u.datum, u.time), u.diff)) (filter (λ u. r (u.datum, u.time)) us)) k ≡ tally_of (λ m. r m && eq_by_cmp R k (key m)) us
  unfolding tally_of tally
  total-filter [] k = refl
  total-filter (u ∷ us) k =
      let rest = filter (λ (v : Update). r (v.datum, v.time)) us in
      ap (λ es. total R es k) (mapped (λ (v : Update). (key (v.datum, v.time), v.diff)) (r (u.datum, u.time)) u rest)
      ∙ chosen R (r (u.datum, u.time)) (key (u.datum, u.time), u.diff) (map (λ v. (key (v.datum, v.time), v.diff)) rest) k (tally_of (λ m. r m && eq_by_cmp R k (key m)) us) (total-filter us k)
      ∙ sym (picked (r (u.datum, u.time)) (eq_by_cmp R k (key (u.datum, u.time))) u.diff (tally_of (λ m. r m && eq_by_cmp R k (key m)) us))

-- the sum at a datum, up to a time
pub at_datum : ℕ → List ℕ → List ℕ × ℕ → Bool
at_datum t d m = nat_le m.1 t && eq_by_cmp (slice_cmp nat_cmp) d m.0

pub total-until : (us : List Update) (t : ℕ) (d : List ℕ) → total (slice_cmp nat_cmp) (map datum_entry (until t us)) d ≡ tally_of (at_datum t d) us
unfolding at_datum
total-until us t d = total-filter (slice_cmp nat_cmp) (λ m. nat_le m.1 t) (λ m. m.0) us d

-- lists with the same sums have the same content
pub same_content : (us vs : List Update) (t : ℕ) → ((d : List ℕ) → tally_of (at_datum t d) us ≡ tally_of (at_datum t d) vs) → sum_of us t ≡ sum_of vs t
same_content us vs t h = ap (map row_at) (consolidated_from_totals nat_list_cmp_total exact_bytes (map datum_entry (until t us)) (map datum_entry (until t vs)) (λ d. total-until us t d ∙ h d ∙ sym (total-until vs t d)))

-- a consolidation has the content of its list
pub sum_of-cons : (us : List Update) (t : ℕ) → sum_of (cons us) t ≡ sum_of us t
sum_of-cons us t = same_content (cons us) us t (λ d. tally_of-cons (at_datum t d) us)

-- and its slices
pub slice_of-cons : (us : List Update) (f g : Option ℕ) → slice_of (cons us) f g ≡ slice_of us f g
slice_of-cons us f g =
    let p : ℕ × List ℕ → List ℕ × ℕ → Bool = λ k m. (is_from f m.1 && covers g m.1) && eq_by_cmp time_cmp k (m.1, m.0) in
    let by : (vs : List Update) (k : ℕ × List ℕ) → total time_cmp (map time_entry (between f g vs)) k ≡ tally_of (p k) vs = λ vs k. total-filter time_cmp (λ m. is_from f m.1 && covers g m.1) (λ m. (m.1, m.0)) vs k in
    ap (map update_in_time) (consolidated_from_totals times_total times_exact (map time_entry (between f g (cons us))) (map time_entry (between f g us)) (λ k. by (cons us) k ∙ tally_of-cons (p k) us ∙ sym (by us k)))

-- ---- moves
pub at_moved : ℕ → List ℕ × ℕ → List ℕ × ℕ → Bool
at_moved s k m = eq_by_cmp moment_cmp k (m.0, max m.1 s)

pub total-moved : (us : List Update) (s : ℕ) (k : List ℕ × ℕ) → total moment_cmp (map moment_entry (moved us s)) k ≡ tally_of (at_moved s k) us
unfolding tally_of tally at_moved
total-moved [] s k = refl
total-moved (u ∷ us) s k = ap (λ t. cond (eq_by_cmp moment_cmp k (u.datum, max u.time s)) u.diff (pos 0) +ℤ t) (total-moved us s k)

-- lists with the same sums are moved to the same consolidation
pub same_moved : (us vs : List Update) (s : ℕ) → ((k : List ℕ × ℕ) → tally_of (at_moved s k) us ≡ tally_of (at_moved s k) vs) → cons (moved us s) ≡ cons (moved vs s)
same_moved us vs s h = ap (map update_at) (consolidated_from_totals moments_total moments_exact (map moment_entry (moved us s)) (map moment_entry (moved vs s)) (λ k. total-moved us s k ∙ h k ∙ sym (total-moved vs s k)))

-- a list may be consolidated before it is moved
pub cons-moved : (us : List Update) (s : ℕ) → cons (moved (cons us) s) ≡ cons (moved us s)
cons-moved us s = same_moved (cons us) us s (λ k. tally_of-cons (at_moved s k) us)

pub moved-append : (us vs : List Update) (s : ℕ) → moved (us ++ vs) s ≡ moved us s ++ moved vs s
moved-append [] vs s = refl
moved-append (u ∷ us) vs s = λ i. moved_by s u ∷ moved-append us vs s i

-- the later of two moves is what counts
pub moved-moved : (us : List Update) (a b : ℕ) → a ≤ b → moved (moved us a) b ≡ moved us b
moved-moved [] a b h = refl
moved-moved (u ∷ us) a b h =
    let later : max (max u.time a) b ≡ max u.time b = omega arith in
    λ i. record u { time = later i } ∷ moved-moved us a b h i

pub weight_of-moved : (us : List Update) (s : ℕ) → weight_of (moved us s) ≡ weight_of us
weight_of-moved [] s = refl
weight_of-moved (u ∷ us) s = omega (arith, weight_of-moved us s, sum_by-cons (λ (v : Update). unsigned_abs v.diff) u us, sum_by-cons (λ (v : Update). unsigned_abs v.diff) (moved_by s u) (moved us s))

-- ---- parts by time
module _ (p : List ℕ × ℕ → Bool) where
  opened : (b : Bool) (u : Update) (us : List Update) → tally_of p (cond b (u ∷ us) us) ≡ cond b (cond (p (u.datum, u.time)) u.diff (pos 0)) (pos 0) +ℤ tally_of p us
  unfolding tally_of tally
  opened true u us = refl
  opened false u us = sym (+ℤ_idl _)

  none : tally_of p [] ≡ tally_of p [] +ℤ tally_of p []
  unfolding tally_of tally
  none = refl

  tally-filter_parts : (v w r : Update → Bool) → ((x : Update) → r x ≡ v x || w x) → ((x : Update) → v x && w x ≡ false) → (us : List Update)
      → tally_of p (filter r us) ≡ tally_of p (filter v us) +ℤ tally_of p (filter w us)
  tally-filter_parts v w r either both [] = none
  tally-filter_parts v w r either both (u ∷ us) =
      opened (r u) u (filter r us)
      ∙ ap (λ t. cond (r u) (cond (p (u.datum, u.time)) u.diff (pos 0)) (pos 0) +ℤ t) (tally-filter_parts v w r either both us)
      ∙ shared (v u) (w u) (r u) (cond (p (u.datum, u.time)) u.diff (pos 0)) (tally_of p (filter v us)) (tally_of p (filter w us)) (either u) (both u)
      ∙ (λ i. sym (opened (v u) u (filter v us)) i +ℤ sym (opened (w u) u (filter w us)) i)

  -- what stands before a frontier and from it on
  pub tally-between_parts : (us : List Update) (f g h : Option ℕ) → is_gt (frontier_cmp f g) ≡ false → is_gt (frontier_cmp g h) ≡ false
      → tally_of p (between f h us) ≡ tally_of p (between f g us) +ℤ tally_of p (between g h us)
  tally-between_parts us f g h fg gh =
      tally-filter_parts (λ u. is_from f u.time && covers g u.time) (λ u. is_from g u.time && covers h u.time) (λ u. is_from f u.time && covers h u.time)
      (λ u. parts_of (is_from f u.time) (covers g u.time) (covers h u.time) (is_from g u.time) (apart g u.time) (covered_on g h u.time gh) (from_before f g u.time fg))
      (λ u. exclusive (is_from f u.time) (covers g u.time) (covers h u.time) (is_from g u.time) (apart g u.time)) us

-- between a frontier and itself there is nothing
pub between_itself : (f : Option ℕ) (us : List Update) → between f f us ≡ []
between_itself f [] = refl
between_itself f (u ∷ us) = ap (λ b. cond b (u ∷ between f f us) (between f f us)) (neither (is_from f u.time) (covers f u.time) (apart f u.time)) ∙ between_itself f us
  where
    neither : (a c : Bool) → a ≡ not c → a && c ≡ false
    neither true true e = e
    neither true false e = refl
    neither false c e = refl

-- what g covers has the content of all at each time that g covers
pub sum_of-covered : (us : List Update) (g : Option ℕ) (t : ℕ) → covers g t ≡ true → sum_of (between (Some 0) g us) t ≡ sum_of us t
sum_of-covered us g t h = ap (λ vs. map row_at (consolidated (slice_cmp nat_cmp) (map datum_entry vs))) (kept us)
  where
    inside : (a b c : Bool) (u : Update) (vs ws : List Update) → until t vs ≡ ws → a ≡ true → (b ≡ false → c ≡ false) → nat_le u.time t ≡ c → until t (cond (a && b) (u ∷ vs) vs) ≡ cond c (u ∷ ws) ws
    inside true true c u vs ws rest from out is = (λ i. cond (is i) (u ∷ rest i) (rest i))
    inside true false c u vs ws rest from out is = rest ∙ ap (λ b. cond b (u ∷ ws) ws) (sym (out refl))
    inside false b c u vs ws rest from out is = cc

    later : (f : Option ℕ) (time : ℕ) → covers f t ≡ true → covers f time ≡ false → nat_le time t ≡ false
    later None time c n = cc
    later (Some a) time c n = grind (arith, nat_tests)

    from_0 : (time : ℕ) → nat_le 0 time ≡ true
    from_0 time = grind (arith, nat_tests)

    kept : (vs : List Update) → until t (between (Some 0) g vs) ≡ until t vs
    kept [] = refl
    kept (u ∷ vs) = inside (is_from (Some 0) u.time) (covers g u.time) (nat_le u.time t) u (between (Some 0) g vs) (until t vs) (kept vs) (from_0 u.time) (later g u.time h) refl

-- what a move leaves
pub tally_of-at_datum-moved : (us : List Update) (s t : ℕ) (d : List ℕ) → s ≤ t → tally_of (at_datum t d) (moved us s) ≡ tally_of (at_datum t d) us
tally_of-at_datum-moved us s t d h = sym (total-until (moved us s) t d) ∙ ap (λ es. total (slice_cmp nat_cmp) es d) (until-moved us s t h) ∙ total-until us t d

pub tally_of-at_moved-moved : (us : List Update) (s t : ℕ) (k : List ℕ × ℕ) → s ≤ t → tally_of (at_moved t k) (moved us s) ≡ tally_of (at_moved t k) us
tally_of-at_moved-moved us s t k h = sym (total-moved (moved us s) t k) ∙ ap (λ vs. total moment_cmp (map moment_entry vs) k) (moved-moved us s t h) ∙ total-moved us t k
