use Rattle.std.proofs.Common.{rules, ◌≡◌, pos, ◌+ℤ◌, w64, to_z, of_z, sym, ap, subst, ◌∙◌, arith}
use Rattle.std.specs.Int.RustNames.{FitsSigned}
use Rattle.std.specs.Map.{lookup}
use Rattle.std.specs.BTreeMap.{is_at}
use Rattle.std.specs.Option.{unwrap_or}
use Rattle.std.proofs.lemmas.Int.{to_z-of_z, fits_signed_from_abs}
use Rattle.update_core.proofs.MergeLaws.{abs_sum}
use Rattle.update_core.proofs.CountLaws.{abs-lookup, inserted_is_counted}
use Rattle.update_core.proofs.counting.count.Goals as goal

pub overflow_add-sum : goal.overflow_add-sum
overflow_add-sum g c =
    let R = g.K.Ord.cmp in
    let k = c.args.key in
    let d = c.args.diff in
    let es = c.args.sums.now.entries in
    let v = unwrap_or (lookup (is_at (R k)) es) (pos 0) in
    let found : c.or_insert-sum.result.now ≡ v = c.or_insert-sum.ensures.value ∙ ap (λ o. unwrap_or o (pos 0)) c.in_ok-sums.ensures.value in
    let fd : FitsSigned w64 d = c.ranges.diff in
    let fv : FitsSigned w64 v = fits_signed_from_abs w64 v (omega (arith, abs-lookup R k es, c.requires.room)) in
    let fs : FitsSigned w64 (v +ℤ d) = fits_signed_from_abs w64 (v +ℤ d) (omega (arith, abs-lookup R k es, abs_sum v d, c.requires.room)) in
    subst (λ z. FitsSigned w64 z) (sym ((λ i. to_z w64 (of_z w64 (found i)) +ℤ to_z-of_z w64 d fd i)
    ∙ ap (λ z. z +ℤ d) (to_z-of_z w64 v fv))) fs

pub returns : goal.returns
returns g c =
    let R = g.K.Ord.cmp in
    let k = c.args.key in
    let d = c.args.diff in
    let es = c.args.sums.now.entries in
    let v = unwrap_or (lookup (is_at (R k)) es) (pos 0) in
    let found : c.or_insert-sum.result.now ≡ v = c.or_insert-sum.ensures.value ∙ ap (λ o. unwrap_or o (pos 0)) c.in_ok-sums.ensures.value in
    let fd : FitsSigned w64 d = c.ranges.diff in
    let fv : FitsSigned w64 v = fits_signed_from_abs w64 v (omega (arith, abs-lookup R k es, c.requires.room)) in
    let fs : FitsSigned w64 (v +ℤ d) = fits_signed_from_abs w64 (v +ℤ d) (omega (arith, abs-lookup R k es, abs_sum v d, c.requires.room)) in
    let sum : to_z w64 (of_z w64 (to_z w64 (of_z w64 c.or_insert-sum.result.now) +ℤ to_z w64 (of_z w64 d))) ≡ v +ℤ d =
    (λ i. to_z w64 (of_z w64 (to_z w64 (of_z w64 (found i)) +ℤ to_z-of_z w64 d fd i))) ∙ ap (λ z. to_z w64 (of_z w64 (z +ℤ d)))
    (to_z-of_z w64 v fv) ∙ to_z-of_z w64 (v +ℤ d) fs in
    let is = inserted_is_counted g.met.K.Ord.total k d es c.entry.ensures.ordered in
    search (rules, found, sum, is, c.in_ok-sums.ensures.update.1)
