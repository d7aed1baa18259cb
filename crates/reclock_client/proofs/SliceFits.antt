-- The append of a publish isn't refused for its range or its rows.
use Rattle.std.proofs.Common.{◌≡◌, ℕ, suc, ◌+◌, ◌≤◌, Bool, true, false, cond, not, ◌&&◌, ℤ, pos, ◌+ℤ◌}
use Rattle.std.proofs.Common.{Option, Some, None, List, [], ◌∷◌, ◌++◌, length, map, refl, ap, ◌∙◌, arith}
use Rattle.std.proofs.lemmas.List.{length-map}
use Rattle.std.proofs.lemmas.Iterator.Adapters.{position_from-zero}
use Rattle.std.specs.List.{AllByRecursion, position_from}
use Rattle.std.specs.Map.{keys_of}
use Rattle.std.specs.Ordering.{int_eq, match_ordering}
use Rattle.std.specs.Prelude.{nat_le, position}
use Rattle.std.specs.declared.cmp.Ordering.{Ordering}
use Rattle.std.specs.declared.cmp.Ordering.TheVariants.{Less, Equal, Greater}
use Rattle.update_core.specs.declared.updates.Update.{Update}
use Rattle.update_core.specs.Frontiers.{covers, is_from}
use Rattle.update_core.specs.Totals.{added, consolidated}
use Rattle.update_core.specs.Updates.{between, slice_of, time_cmp, time_entry, update_in_time}
use Rattle.update_core.proofs.Consolidated.{keys-consolidated}
use Rattle.remap_core.specs.declared.source_rows.SourceRow.{SourceRow}
use Rattle.remap_core.specs.Bound.{bind}
use Rattle.remap_core.specs.Reclocking.{bound, reclocked, update_of}
use Rattle.write_client.specs.Drafting.{is_outside}

-- ---- how many rows

unless_length : {K : Type 0} (b : Bool) (e : K × ℤ) (es : List (K × ℤ)) (n : ℕ) → suc (length es) ≤ n → length (cond b es (e ∷ es)) ≤ n
unless_length true e es n h = omega (arith, h)
unless_length false e es n h = omega (arith, h)

added_length : {K : Type 0} (R : K → K → Ordering) (k : K) (d : ℤ) (es : List (K × ℤ)) → length (added R k d es) ≤ suc (length es)
added_length {K} R k d [] = unless_length {K = K} (int_eq d (pos 0)) (k, d) [] 1 (omega arith)
added_length {K} R k d (e ∷ es) =
    elim (R k e.0) as (λ r. length (match_ordering r (cond (int_eq d (pos 0)) (e ∷ es) ((k, d) ∷ e ∷ es))
    (cond (int_eq (d +ℤ e.1) (pos 0)) es ((e.0, d +ℤ e.1) ∷ es)) (e ∷ added R k d es)) ≤ suc (suc (length es))) [
      | Less ↦ unless_length {K = K} (int_eq d (pos 0)) (k, d) (e ∷ es) (suc (suc (length es))) (omega arith)
      | Equal ↦ unless_length {K = K} (int_eq (d +ℤ e.1) (pos 0)) (e.0, d +ℤ e.1) es (suc (suc (length es))) (omega arith)
      | Greater ↦ omega (arith, added_length R k d es)
    ]

consolidated_length : {K : Type 0} (R : K → K → Ordering) (es : List (K × ℤ)) → length (consolidated R es) ≤ length es
unfolding consolidated
consolidated_length R [] = omega arith
consolidated_length R (e ∷ es) = omega (arith, added_length R e.0 e.1 (consolidated R es), consolidated_length R es)

kept_length : (b : Bool) (u : Update) (us vs : List Update) → length us ≤ length vs → length (cond b (u ∷ us) us) ≤ suc (length vs)
kept_length true u us vs h = omega (arith, h)
kept_length false u us vs h = omega (arith, h)

between_length : (f g : Option ℕ) (us : List Update) → length (between f g us) ≤ length us
between_length f g [] = omega arith
between_length f g (u ∷ us) = kept_length (is_from f u.time && covers g u.time) u (between f g us) us (between_length f g us)

slice_length : (us : List Update) (f g : Option ℕ) → length (slice_of us f g) ≤ length us
slice_length us f g = omega (
  arith,
  length-map (consolidated time_cmp (map time_entry (between f g us))) update_in_time,
  consolidated_length time_cmp (map time_entry (between f g us)),
  length-map (between f g us) time_entry,
  between_length f g us,
)

one_more : (t : Option ℕ) (r : SourceRow) (s : ℕ) (us : List Update) (n : ℕ) → length us ≤ n → length (update_of r s t ++ us) ≤ suc n
one_more None r s us n h = omega (arith, h)
one_more (Some t) r s us n h = omega (arith, h)

bound_length : (rs : List SourceRow) (bs : List (ℕ × List ℕ)) (s : ℕ) → length (bound rs bs s) ≤ length rs
unfolding bound
bound_length [] bs s = omega arith
bound_length (r ∷ rs) bs s = one_more (bind bs r.partition r.offset) r s (bound rs bs s) (length rs) (bound_length rs bs s)

pub published_few : (rs : List SourceRow) (bs : List (ℕ × List ℕ)) (from : ℕ) (to : Option ℕ) → length rs ≤ 65536 →
    length (slice_of (reclocked rs bs 0) (Some from) to) ≤ 65536
published_few rs bs from to few = omega (
  arith,
  few,
  slice_length (reclocked rs bs 0) (Some from) to,
  slice_length (bound rs bs 0) (Some 0) None,
  bound_length rs bs 0,
)

-- ---- which

-- a time in the range
abbrev IsInside : ℕ → Option ℕ → ℕ → Type 0
IsInside from to t = (nat_le from t && covers to t) ≡ true

-- each entry of these updates is in the range
abbrev AreInside : ℕ → Option ℕ → List Update → Type 0
AreInside from to us = AllByRecursion (λ (k : ℕ × List ℕ). IsInside from to k.0) (keys_of (map time_entry us))

entries_inside : (from : ℕ) (to : Option ℕ) (us : List Update) → AreInside from to (between (Some from) to us)
entries_inside from to [] = tt
entries_inside from to (u ∷ us) = by (nat_le from u.time && covers to u.time) refl (between (Some from) to us) (entries_inside from to us)
  where
    by : (b : Bool) → (nat_le from u.time && covers to u.time) ≡ b → (vs : List Update) → AreInside from to vs →
        AreInside from to (cond b (u ∷ vs) vs)
    by true e vs all = (e, all)
    by false e vs all = all

updates_inside : (from : ℕ) (to : Option ℕ) (es : List ((ℕ × List ℕ) × ℤ)) →
    AllByRecursion (λ (k : ℕ × List ℕ). IsInside from to k.0) (keys_of es) →
    AllByRecursion (λ u. IsInside from to u.time) (map update_in_time es)
updates_inside from to [] all = tt
updates_inside from to (e ∷ es) all = (all.0, updates_inside from to es all.1)

slice_inside : (us : List Update) (from : ℕ) (to : Option ℕ) → AllByRecursion (λ u. IsInside from to u.time) (slice_of us (Some from) to)
slice_inside us from to = updates_inside from to (consolidated time_cmp (map time_entry (between (Some from) to us)))
    (keys-consolidated time_cmp (λ (k : ℕ × List ℕ). IsInside from to k.0) (map time_entry (between (Some from) to us))
    (entries_inside from to us))

none_outside : (from : ℕ) (to : Option ℕ) (i : ℕ) (us : List Update) → AllByRecursion (λ u. IsInside from to u.time) us →
    position_from (is_outside from to) i us ≡ None
none_outside from to i [] all = refl
none_outside from to i (u ∷ us) all =
    ap (λ (b : Bool). cond (not b) (Some i) (position_from (is_outside from to) (i + 1) us)) all.0 ∙ none_outside from to (i + 1) us all.1

pub published_inside : (us : List Update) (from : ℕ) (to : Option ℕ) → position (is_outside from to) (slice_of us (Some from) to) ≡ None
published_inside us from to = position_from-zero (is_outside from to) (slice_of us (Some from) to)
    ∙ none_outside from to 0 (slice_of us (Some from) to) (slice_inside us from to)
