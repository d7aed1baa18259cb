-- What one more difference does to the sums in an ordered map.
use Rattle.std.proofs.Common.{◌≡◌, ℤ, pos, ◌+ℤ◌, ◌+◌, ◌≤◌, cond, List, [], ◌∷◌, refl, sym, ap, ◌∙◌, arith}
use Rattle.std.proofs.Math.IntN.{+ℤ_idl}
use Rattle.std.proofs.lemmas.List.Sums.{sum_by-cons}
use Rattle.std.proofs.lemmas.Cmp.{alike_right}
use Rattle.std.specs.declared.cmp.Ordering.{Ordering}
use Rattle.std.specs.declared.cmp.Ordering.TheVariants.{Less, Equal, Greater}
use Rattle.std.specs.Cmp.{IsTotalOrder}
use Rattle.std.specs.BTreeMap.{insert_entry, is_at}
use Rattle.std.specs.Int.RustNames.{unsigned_abs}
use Rattle.std.specs.Map.{keys_of, lookup}
use Rattle.std.specs.Option.{unwrap_or}
use Rattle.std.specs.Prelude.{None}
use Rattle.std.specs.Ordering.{eq_by_cmp, is_eq, match_ordering}
use Rattle.std.specs.List.{AllByRecursion}
use Rattle.std.specs.List.Sorted.{IsStrictlySortedBy}
use Rattle.update_core.specs.Totals.{total, counted}
use Rattle.update_core.specs.Weights.{weight}
use Rattle.update_core.proofs.Consolidated.{cond_sum, swapped}
use Rattle.update_core.proofs.MergeLaws.{abs_sum}
use Rattle.update_core.proofs.Unique.{below_all}

module _ {K : Type 0} (R : K → K → Ordering) where
  -- no sum weighs more than all
  pub abs-lookup : (k : K) (es : List (K × ℤ)) → unsigned_abs (unwrap_or (lookup (is_at (R k)) es) (pos 0)) ≤ weight es
  abs-lookup k [] = omega arith
  abs-lookup k (e ∷ es) =
      let w = sum_by-cons (λ (e : K × ℤ). unsigned_abs e.1) e es in
      elim (R k e.0) as (λ r. unsigned_abs (unwrap_or (cond (is_eq r) (Rattle.std.specs.Prelude.Some e.1) (lookup (is_at (R k)) es))
      (pos 0)) ≤ weight (e ∷ es)) [
        | Less ↦ omega (arith, w, abs-lookup k es)
        | Equal ↦ omega (arith, w)
        | Greater ↦ omega (arith, w, abs-lookup k es)
      ]

  -- a key below those of a list isn't there
  lookup_below : (k : K) (es : List (K × ℤ)) → AllByRecursion (λ y. R k y ≡ Less) (keys_of es) → lookup (is_at (R k)) es ≡ None
  lookup_below k [] h = refl
  lookup_below k (e ∷ es) h = ap (λ r. cond (is_eq r) (Rattle.std.specs.Prelude.Some e.1) (lookup (is_at (R k)) es)) h.0
      ∙ lookup_below k es h.1

  pub weight-counted : (k : K) (d : ℤ) (es : List (K × ℤ)) → weight (counted R k d es) ≤ weight es + unsigned_abs d
  weight-counted k d [] = omega (arith, sum_by-cons (λ (e : K × ℤ). unsigned_abs e.1) (k, d) [])
  weight-counted k d (e ∷ es) =
      let w = sum_by-cons (λ (e : K × ℤ). unsigned_abs e.1) e es in
      elim (R k e.0) as (λ r. weight (match_ordering r ((k, d) ∷ e ∷ es) ((e.0, e.1 +ℤ d) ∷ es) (e ∷ counted R k d es))
      ≤ weight (e ∷ es) + unsigned_abs d) [
        | Less ↦ omega (arith, sum_by-cons (λ (e : K × ℤ). unsigned_abs e.1) (k, d) (e ∷ es))
        | Equal ↦ omega (arith, w, abs_sum e.1 d, sum_by-cons (λ (e : K × ℤ). unsigned_abs e.1) (e.0, e.1 +ℤ d) es)
        | Greater ↦ omega (arith, w, weight-counted k d es, sum_by-cons (λ (e : K × ℤ). unsigned_abs e.1) e (counted R k d es))
      ]

module _ {K : Type 0} {R : K → K → Ordering} (o : IsTotalOrder R) where
  -- what is inserted for the sum that was found
  pub inserted_is_counted : (k : K) (d : ℤ) (es : List (K × ℤ)) → IsStrictlySortedBy R (keys_of es)
      → insert_entry R es k (unwrap_or (lookup (is_at (R k)) es) (pos 0) +ℤ d) ≡ counted R k d es
  unfolding IsStrictlySortedBy
  inserted_is_counted k d [] up = ap (λ z. (k, z) ∷ []) (+ℤ_idl d)
  inserted_is_counted k d (e ∷ es) up =
      elim (R k e.0) as (λ r. R k e.0 ≡ r → match_ordering r ((
        k,
        unwrap_or (cond (is_eq r) (Rattle.std.specs.Prelude.Some e.1) (lookup
            (is_at (R k)) es)) (pos 0) +ℤ d,
      ) ∷ e ∷ es)
      ((e.0, unwrap_or (cond (is_eq r) (Rattle.std.specs.Prelude.Some e.1) (lookup (is_at (R k)) es)) (pos 0) +ℤ d) ∷ es)
      (e ∷ insert_entry R es k (unwrap_or (cond (is_eq r) (Rattle.std.specs.Prelude.Some e.1) (lookup (is_at (R k)) es)) (pos 0) +ℤ d))
      ≡ match_ordering r ((k, d) ∷ e ∷ es) ((e.0, e.1 +ℤ d) ∷ es) (e ∷ counted R k d es)) [
        | Less ↦ λ is. (λ i. (
          k,
          (ap (λ v. unwrap_or v (pos 0) +ℤ d) (lookup_below R k es (below_all o k e.0 (keys_of es) is up.0))
              ∙ +ℤ_idl d) i,
        ) ∷ e ∷ es)
        | Equal ↦ λ is. refl
        | Greater ↦ λ is. (λ i. e ∷ inserted_is_counted k d es up.1 i)
      ] refl

  pub total-counted : (k : K) (d : ℤ) (es : List (K × ℤ)) (q : K) → total R (counted R k d es) q
      ≡ cond (eq_by_cmp R q k) d (pos 0) +ℤ total R es q
  total-counted k d [] q = refl
  total-counted k d (e ∷ es) q =
      elim (R k e.0) as (λ r. R k e.0 ≡ r → total R (match_ordering r ((k, d) ∷ e ∷ es) ((e.0, e.1 +ℤ d) ∷ es)
      (e ∷ counted R k d es)) q ≡ cond (eq_by_cmp R q k) d (pos 0) +ℤ total R (e ∷ es) q) [
        | Less ↦ λ is. refl
        | Equal ↦ λ is. cond_sum (eq_by_cmp R q e.0) e.1 d (total R es q)
            ∙ swapped (cond (eq_by_cmp R q e.0) e.1 (pos 0)) (cond (eq_by_cmp R q e.0) d (pos 0)) (total R es q)
            ∙ ap (λ r. cond (is_eq r) d (pos 0) +ℤ (cond (eq_by_cmp R q e.0) e.1 (pos 0) +ℤ total R es q)) (sym (alike_right o k e.0 q is))
        | Greater ↦ λ is. ap (λ t. cond (eq_by_cmp R q e.0) e.1 (pos 0) +ℤ t) (total-counted k d es q)
            ∙ swapped (cond (eq_by_cmp R q e.0) e.1 (pos 0)) (cond (eq_by_cmp R q k) d (pos 0)) (total R es q)
      ] refl
