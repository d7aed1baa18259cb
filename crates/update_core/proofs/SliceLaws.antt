-- Slices of a growing list join.
use Rattle.std.proofs.Common.{◌≡◌, ◌≢◌, ℕ, ℤ, pos, ◌+ℤ◌, Bool, true, false, cond, not, ◌&&◌, ◌||◌, Option, Some, None, List, [], ◌∷◌, ◌++◌, map, refl, sym, ap, subst, ◌∙◌, arith}
use Rattle.std.proofs.Math.IntN.{+ℤ_idl}
use Rattle.std.proofs.lemmas.Int.{ints}
use Rattle.std.proofs.lemmas.Bool.Decides.{nat_tests}
use Rattle.std.specs.declared.cmp.Ordering.{Ordering}
use Rattle.std.specs.declared.cmp.Ordering.TheVariants.{Less}
use Rattle.std.specs.Cmp.Lexicographic.{slice_cmp}
use Rattle.std.specs.List.{AllByRecursion, filter}
use Rattle.std.specs.List.Sorted.{IsStrictlySortedBy}
use Rattle.std.specs.Map.{keys_of}
use Rattle.std.specs.Ordering.{eq_by_cmp, is_gt, nat_cmp, ordering_then}
use Rattle.update_core.specs.declared.updates.Update.{Update}
use Rattle.update_core.specs.Frontiers.{covers, is_from, frontier_cmp}
use Rattle.update_core.specs.Totals.{total, IsConsolidation, consolidated}
use Rattle.update_core.specs.Updates.{time_cmp, time_entry, between, slice_of, update_in_time, OutOf}
use Rattle.update_core.proofs.Consolidated.{consolidated_is, keys-consolidated, total-append}
use Rattle.update_core.proofs.UpdateLaws.{times_total, is_slice}

-- ---- frontiers and times
pub covered_on : (g h : Option ℕ) (t : ℕ) → is_gt (frontier_cmp g h) ≡ false → covers g t ≡ true → covers h t ≡ true
covered_on None None t le c = refl
covered_on None (Some h) t le c = cc
covered_on (Some g) None t le c = refl
covered_on (Some g) (Some h) t le c = grind (arith, nat_tests)

pub from_before : (f g : Option ℕ) (t : ℕ) → is_gt (frontier_cmp f g) ≡ false → covers g t ≡ false → is_from f t ≡ true
from_before f None t le c = cc
from_before None (Some g) t le c = cc
from_before (Some f) (Some g) t le c = grind (arith, nat_tests)

pub apart : (g : Option ℕ) (t : ℕ) → is_from g t ≡ not (covers g t)
apart None t = refl
apart (Some g) t = grind (arith, nat_tests)

below_later : (g : Option ℕ) (a b : ℕ) → covers g a ≡ true → is_from g b ≡ true → nat_cmp a b ≡ Less
below_later None a b c d = cc
below_later (Some g) a b c d = grind (arith, nat_tests)

pub parts_of : (f c1 c2 g : Bool) → g ≡ not c1 → (c1 ≡ true → c2 ≡ true) → (c1 ≡ false → f ≡ true) → f && c2 ≡ (f && c1) || (g && c2)
parts_of f true true g e p q = ap (λ (b : Bool). f && true) e ∙ or_false (f && true) g e
  where
    or_false : (x g : Bool) → g ≡ false → x ≡ x || (g && true)
    or_false true g e = refl
    or_false false g e = sym (ap (λ b. b && true) e)
parts_of f true false g e p q = absurd (apart_bools (p refl))
  where
    apart_bools : false ≡ true → ⊥
    apart_bools e = cc
parts_of f false c2 g e p q = from_true f g c2 (q refl) e
  where
    from_true : (f g c : Bool) → f ≡ true → g ≡ true → f && c ≡ (f && false) || (g && c)
    from_true true true c a b = refl
    from_true true false c a b = cc
    from_true false g c a b = cc

pub exclusive : (f c1 c2 g : Bool) → g ≡ not c1 → (f && c1) && (g && c2) ≡ false
exclusive true true c2 g e = ap (λ b. b && c2) e
exclusive true false c2 g e = refl
exclusive false c1 c2 g e = refl

-- a number that counts in one of two parts
pub shared : (p q r : Bool) (z a b : ℤ) → r ≡ p || q → p && q ≡ false → cond r z (pos 0) +ℤ (a +ℤ b) ≡ (cond p z (pos 0) +ℤ a) +ℤ (cond q z (pos 0) +ℤ b)
shared true true r z a b e f = cc
shared true false r z a b e f = ap (λ c. cond c z (pos 0) +ℤ (a +ℤ b)) e ∙ first z a b
  where
    first : (z a b : ℤ) → z +ℤ (a +ℤ b) ≡ (z +ℤ a) +ℤ (pos 0 +ℤ b)
    first z a b = omega (arith, ints)
shared false true r z a b e f = ap (λ c. cond c z (pos 0) +ℤ (a +ℤ b)) e ∙ second z a b
  where
    second : (z a b : ℤ) → z +ℤ (a +ℤ b) ≡ (pos 0 +ℤ a) +ℤ (z +ℤ b)
    second z a b = omega (arith, ints)
shared false false r z a b e f = ap (λ c. cond c z (pos 0) +ℤ (a +ℤ b)) e ∙ neither a b
  where
    neither : (a b : ℤ) → pos 0 +ℤ (a +ℤ b) ≡ (pos 0 +ℤ a) +ℤ (pos 0 +ℤ b)
    neither a b = omega (arith, ints)

-- ---- sums over the parts of a list
module _ {K : Type 0} (R : K → K → Ordering) {A : Type 0} (entry : A → K × ℤ) where
  amount : K → A → ℤ
  amount k x = cond (eq_by_cmp R k (entry x).0) (entry x).1 (pos 0)

  opened : (b : Bool) (x : A) (xs : List A) (k : K) → total R (map entry (cond b (x ∷ xs) xs)) k ≡ cond b (amount k x) (pos 0) +ℤ total R (map entry xs) k
  unfolding amount
  opened true x xs k = refl
  opened false x xs k = sym (+ℤ_idl _)

  pub total-filter_parts : (p q r : A → Bool) → ((x : A) → r x ≡ p x || q x) → ((x : A) → p x && q x ≡ false) → (xs : List A) (k : K)
      → total R (map entry (filter r xs)) k ≡ total R (map entry (filter p xs)) k +ℤ total R (map entry (filter q xs)) k
  total-filter_parts p q r either both [] k = refl
  total-filter_parts p q r either both (x ∷ xs) k =
      opened (r x) x (filter r xs) k
      ∙ ap (λ t. cond (r x) (amount k x) (pos 0) +ℤ t) (total-filter_parts p q r either both xs k)
      ∙ shared (p x) (q x) (r x) (amount k x) (total R (map entry (filter p xs)) k) (total R (map entry (filter q xs)) k) (either x) (both x)
      ∙ (λ i. sym (opened (p x) x (filter p xs) k) i +ℤ sym (opened (q x) x (filter q xs) k) i)

  -- each key of the first is below each of the second
  abbrev pub AllBelow : List K → List K → Type 0
  AllBelow ks ys = AllByRecursion (λ a. AllByRecursion (λ b. R a b ≡ Less) ys) ks

  all_append : (P : K → Type 0) (xs ys : List (K × ℤ)) → AllByRecursion P (keys_of xs) → AllByRecursion P (keys_of ys) → AllByRecursion P (keys_of (xs ++ ys))
  all_append P [] ys a b = b
  all_append P (x ∷ xs) ys a b = (a.0, all_append P xs ys a.1 b)

  nonzero_append : (xs ys : List (K × ℤ)) → AllByRecursion (λ e. e.1 ≢ pos 0) xs → AllByRecursion (λ e. e.1 ≢ pos 0) ys → AllByRecursion (λ e. e.1 ≢ pos 0) (xs ++ ys)
  nonzero_append [] ys a b = b
  nonzero_append (x ∷ xs) ys a b = (a.0, nonzero_append xs ys a.1 b)

  rising_append : (xs ys : List (K × ℤ)) → IsStrictlySortedBy R (keys_of xs) → IsStrictlySortedBy R (keys_of ys) → AllBelow (keys_of xs) (keys_of ys) → IsStrictlySortedBy R (keys_of (xs ++ ys))
  unfolding IsStrictlySortedBy
  rising_append [] ys a b below = b
  rising_append (x ∷ xs) ys a b below = (all_append (λ k. R x.0 k ≡ Less) xs ys a.0 below.0, rising_append xs ys a.1 b below.1)

  -- consolidations of two parts, one below the other, are one of both
  pub consolidations_join : (es fs gs xs ys : List (K × ℤ)) → IsConsolidation R es xs → IsConsolidation R fs ys → AllBelow (keys_of xs) (keys_of ys)
      → ((k : K) → total R gs k ≡ total R es k +ℤ total R fs k) → IsConsolidation R gs (xs ++ ys)
  consolidations_join es fs gs xs ys a b below sums = record {
    rising = rising_append xs ys a.rising b.rising below;
    nonzero = nonzero_append xs ys a.nonzero b.nonzero;
    same = λ k. total-append R xs ys k ∙ (λ i. a.same k i +ℤ b.same k i) ∙ sym (sums k);
  }

-- ---- slices
none_there : (f g : Option ℕ) (us : List Update) → AllByRecursion (λ u. covers g u.time ≡ false) us → between f g us ≡ []
none_there f g [] h = refl
none_there f g (u ∷ us) h = ap (λ b. cond b (u ∷ between f g us) (between f g us)) (closed_off (is_from f u.time) (covers g u.time) h.0) ∙ none_there f g us h.1
  where
    closed_off : (a b : Bool) → b ≡ false → a && b ≡ false
    closed_off true b e = e
    closed_off false b e = refl

between-append : (f g : Option ℕ) (us vs : List Update) → between f g (us ++ vs) ≡ between f g us ++ between f g vs
between-append f g [] vs = refl
between-append f g (u ∷ us) vs = ap (λ l. cond (is_from f u.time && covers g u.time) (u ∷ l) l) (between-append f g us vs) ∙ pushed (is_from f u.time && covers g u.time)
  where
    pushed : (b : Bool) → cond b (u ∷ (between f g us ++ between f g vs)) (between f g us ++ between f g vs) ≡ cond b (u ∷ between f g us) (between f g us) ++ between f g vs
    pushed true = refl
    pushed false = refl

append-nil_updates : (us : List Update) → us ++ [] ≡ us
append-nil_updates [] = refl
append-nil_updates (u ∷ us) = λ i. u ∷ append-nil_updates us i

covered_keys : (f g : Option ℕ) (us : List Update) → AllByRecursion (λ k. covers g k.0 ≡ true) (keys_of (map time_entry (between f g us)))
covered_keys f g [] = tt
covered_keys f g (u ∷ us) = elim (is_from f u.time && covers g u.time) as (λ b. is_from f u.time && covers g u.time ≡ b → AllByRecursion (λ (k : ℕ × List ℕ). covers g k.0 ≡ true) (keys_of (map time_entry (cond b (u ∷ between f g us) (between f g us))))) [
  | true ↦ λ e. (second (is_from f u.time) (covers g u.time) e, covered_keys f g us)
  | false ↦ λ _. covered_keys f g us
] refl
  where
    second : (a b : Bool) → a && b ≡ true → b ≡ true
    second true b e = e
    second false b e = cc

from_keys : (g h : Option ℕ) (us : List Update) → AllByRecursion (λ k. is_from g k.0 ≡ true) (keys_of (map time_entry (between g h us)))
from_keys g h [] = tt
from_keys g h (u ∷ us) = elim (is_from g u.time && covers h u.time) as (λ b. is_from g u.time && covers h u.time ≡ b → AllByRecursion (λ (k : ℕ × List ℕ). is_from g k.0 ≡ true) (keys_of (map time_entry (cond b (u ∷ between g h us) (between g h us))))) [
  | true ↦ λ e. (first (is_from g u.time) (covers h u.time) e, from_keys g h us)
  | false ↦ λ _. from_keys g h us
] refl
  where
    first : (a b : Bool) → a && b ≡ true → a ≡ true
    first true b e = refl
    first false b e = cc

later_keys : (g : Option ℕ) (a : ℕ × List ℕ) (ys : List (ℕ × List ℕ)) → covers g a.0 ≡ true → AllByRecursion (λ k. is_from g k.0 ≡ true) ys → AllByRecursion (λ b. time_cmp a b ≡ Less) ys
later_keys g a [] c d = tt
later_keys g a (y ∷ ys) c d = (ap (λ r. ordering_then r (slice_cmp nat_cmp a.1 y.1)) (below_later g a.0 y.0 c d.0), later_keys g a ys c d.1)

all_below : (g : Option ℕ) (xs ys : List (ℕ × List ℕ)) → AllByRecursion (λ k. covers g k.0 ≡ true) xs → AllByRecursion (λ k. is_from g k.0 ≡ true) ys → AllByRecursion (λ a. AllByRecursion (λ b. time_cmp a b ≡ Less) ys) xs
all_below g [] ys c d = tt
all_below g (x ∷ xs) ys c d = (later_keys g x ys c.0 d, all_below g xs ys c.1 d)

in_time : (es : List ((ℕ × List ℕ) × ℤ)) → map time_entry (map update_in_time es) ≡ es
in_time [] = refl
in_time (e ∷ es) = λ i. e ∷ in_time es i

entries-append : (us vs : List Update) → map time_entry (us ++ vs) ≡ map time_entry us ++ map time_entry vs
entries-append [] vs = refl
entries-append (u ∷ us) vs = λ i. time_entry u ∷ entries-append us vs i

-- what comes past g is in no part up to g
pub between-more : (us more : List Update) (f g : Option ℕ) → OutOf g more → between f g (us ++ more) ≡ between f g us
between-more us more f g out = between-append f g us more ∙ ap (λ l. between f g us ++ l) (none_there f g more out.all) ∙ append-nil_updates (between f g us)

-- a slice up to g, and then, when more has come past g, one from g on, are one slice
pub slices_join : (us more : List Update) (f g h : Option ℕ) → is_gt (frontier_cmp f g) ≡ false → is_gt (frontier_cmp g h) ≡ false → OutOf g more
    → slice_of us f g ++ slice_of (us ++ more) g h ≡ slice_of (us ++ more) f h
slices_join us more f g h fg gh out =
    let all = us ++ more in
    let es = map time_entry (between f g us) in
    let fs = map time_entry (between g h all) in
    let gs = map time_entry (between f h all) in
    let same_first = between-more us more f g out in
    let sums : (k : ℕ × List ℕ) → total time_cmp gs k ≡ total time_cmp es k +ℤ total time_cmp fs k = λ k.
    total-filter_parts time_cmp time_entry (λ u. is_from f u.time && covers g u.time) (λ u. is_from g u.time && covers h u.time) (λ u. is_from f u.time && covers h u.time)
    (λ u. parts_of (is_from f u.time) (covers g u.time) (covers h u.time) (is_from g u.time) (apart g u.time) (covered_on g h u.time gh) (from_before f g u.time fg))
    (λ u. exclusive (is_from f u.time) (covers g u.time) (covers h u.time) (is_from g u.time) (apart g u.time)) all k
    ∙ ap (λ l. total time_cmp (map time_entry l) k +ℤ total time_cmp fs k) same_first in
    let below = all_below g (keys_of (consolidated time_cmp es)) (keys_of (consolidated time_cmp fs))
    (keys-consolidated time_cmp (λ k. covers g k.0 ≡ true) es (covered_keys f g us)) (keys-consolidated time_cmp (λ k. is_from g k.0 ≡ true) fs (from_keys g h all)) in
    let joined = consolidations_join time_cmp time_entry es fs gs (consolidated time_cmp es) (consolidated time_cmp fs) (consolidated_is times_total es) (consolidated_is times_total fs) below sums in
    is_slice all f h (slice_of us f g ++ slice_of all g h)
    (subst (λ l. IsConsolidation time_cmp gs l) (sym (entries-append (slice_of us f g) (slice_of all g h) ∙ (λ i. in_time (consolidated time_cmp es) i ++ in_time (consolidated time_cmp fs) i))) joined)
