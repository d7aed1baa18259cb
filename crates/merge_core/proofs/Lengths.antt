-- A consolidation is no longer than its rows.
use Rattle.std.proofs.Common.{◌≡◌, ℕ, suc, ◌≤◌, ℤ, pos, ◌+ℤ◌, Bool, true, false, cond, List, [], ◌∷◌, length, map, arith}
use Rattle.std.specs.Ordering.{int_eq, match_ordering}
use Rattle.std.specs.declared.cmp.Ordering.{Ordering}
use Rattle.std.specs.declared.cmp.Ordering.TheVariants.{Less, Equal, Greater}
use Rattle.std.proofs.lemmas.List.{length-map}
use Rattle.update_core.specs.declared.updates.Update.{Update}
use Rattle.update_core.specs.Totals.{added, consolidated}
use Rattle.update_core.specs.Updates.{cons, moment_cmp, moment_entry, moved, moved_by, update_at}

module _ {K : Type 0} (R : K → K → Ordering) where
  length_unless : (b : Bool) (k : K) (d : ℤ) (es : List (K × ℤ)) → length (cond b es ((k, d) ∷ es)) ≤ suc (length es)
  length_unless true k d es = omega arith
  length_unless false k d es = omega arith

  length-added : (k : K) (d : ℤ) (es : List (K × ℤ)) → length (added R k d es) ≤ suc (length es)
  length-added k d [] = length_unless (int_eq d (pos 0)) k d []
  length-added k d (e ∷ es) =
      elim (R k e.0) as (λ r. length (match_ordering r (cond (int_eq d (pos 0)) (e ∷ es) ((k, d) ∷ e ∷ es)) (cond (int_eq (d +ℤ e.1) (pos 0)) es ((e.0, d +ℤ e.1) ∷ es)) (e ∷ added R k d es)) ≤ suc (suc (length es))) [
        | Less ↦ length_unless (int_eq d (pos 0)) k d (e ∷ es)
        | Equal ↦ omega (arith, length_unless (int_eq (d +ℤ e.1) (pos 0)) e.0 (d +ℤ e.1) es)
        | Greater ↦ omega (arith, length-added k d es)
      ]

  length-consolidated : (es : List (K × ℤ)) → length (consolidated R es) ≤ length es
  unfolding consolidated
  length-consolidated [] = omega arith
  length-consolidated (e ∷ es) = omega (arith, length-added e.0 e.1 (consolidated R es), length-consolidated es)

pub length-cons : (us : List Update) → length (cons us) ≤ length us
length-cons us = omega (arith, length-map (consolidated moment_cmp (map moment_entry us)) update_at, length-consolidated moment_cmp (map moment_entry us), length-map us moment_entry)

pub length-moved : (us : List Update) (since : ℕ) → length (moved us since) ≡ length us
length-moved us since = length-map us (moved_by since)
