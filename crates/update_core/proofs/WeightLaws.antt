-- What consolidation and appending do to the sum of the absolute differences.
use Rattle.std.proofs.Common.{◌≡◌, ℕ, ◌+◌, ◌≤◌, ℤ, List, [], ◌∷◌, ◌++◌, map, sym, refl, subst, arith}
use Rattle.std.proofs.lemmas.List.Sums.{sum_by-cons, sum_by-append}
use Rattle.std.specs.declared.cmp.Ordering.{Ordering}
use Rattle.std.specs.Int.RustNames.{unsigned_abs}
use Rattle.update_core.specs.declared.updates.Update.{Update}
use Rattle.update_core.specs.Totals.{consolidated}
use Rattle.update_core.specs.Weights.{weight}
use Rattle.update_core.specs.Updates.{moment_cmp, moment_entry, update_at, weight_of, cons}
use Rattle.update_core.proofs.MergeLaws.{weight-added}

pub weight-consolidated : {K : Type 0} (R : K → K → Ordering) (es : List (K × ℤ)) → weight (consolidated R es) ≤ weight es
unfolding consolidated
weight-consolidated R [] = omega arith
weight-consolidated {K} R (e ∷ es) = omega (arith, weight-added R e.0 e.1 (consolidated R es), weight-consolidated R es, sum_by-cons (λ (x : K × ℤ). unsigned_abs x.1) e es)

weight_of-entries : (us : List Update) → weight (map moment_entry us) ≡ weight_of us
weight_of-entries [] = refl
weight_of-entries (u ∷ us) = omega (arith, weight_of-entries us, sum_by-cons (λ (e : (List ℕ × ℕ) × ℤ). unsigned_abs e.1) (moment_entry u) (map moment_entry us), sum_by-cons (λ (v : Update). unsigned_abs v.diff) u us)

weight_of-updates : (es : List ((List ℕ × ℕ) × ℤ)) → weight_of (map update_at es) ≡ weight es
weight_of-updates [] = refl
weight_of-updates (e ∷ es) = omega (arith, weight_of-updates es, sum_by-cons (λ (x : (List ℕ × ℕ) × ℤ). unsigned_abs x.1) e es, sum_by-cons (λ (v : Update). unsigned_abs v.diff) (update_at e) (map update_at es))

pub weight_of-cons : (us : List Update) → weight_of (cons us) ≤ weight_of us
weight_of-cons us = omega (arith, weight_of-updates (consolidated moment_cmp (map moment_entry us)), weight-consolidated moment_cmp (map moment_entry us), weight_of-entries us)

pub weight_of-append : (us vs : List Update) → weight_of (us ++ vs) ≡ weight_of us + weight_of vs
weight_of-append us vs = sum_by-append (λ (u : Update). unsigned_abs u.diff) us vs

-- a list that is the consolidation weighs no more
pub weight_of-consolidation : (us out : List Update) → out ≡ cons us → weight_of out ≤ weight_of us
weight_of-consolidation us out e = subst (λ vs. weight_of vs ≤ weight_of us) (sym e) (weight_of-cons us)
