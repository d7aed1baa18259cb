-- What operators' collections come to.
use Rattle.std.proofs.Common.{◌≡◌, ℕ, ◌≤◌, ℤ, pos, ◌+ℤ◌, Bool, true, false, cond, Option, Some, None, List, [], ◌∷◌, ◌++◌, map, max, refl}
use Rattle.std.proofs.Common.{sym, ap, ◌∙◌, arith}
use Rattle.std.proofs.lemmas.Bool.Decides.{nat_tests}
use Rattle.std.specs.declared.cmp.Ordering.{Ordering}
use Rattle.std.specs.declared.cmp.Ordering.TheVariants.{Less, Equal, Greater}
use Rattle.std.specs.Cmp.Lexicographic.{slice_cmp}
use Rattle.std.specs.Ordering.{nat_cmp, is_eq, ordering_then}
use Rattle.std.specs.Prelude.{nat_le}
use Rattle.update_core.specs.declared.updates.Update.{Update}
use Rattle.update_core.specs.Frontiers.{covers}
use Rattle.update_core.specs.Totals.{total, consolidated}
use Rattle.update_core.specs.Updates.{moment_cmp, moment_entry, time_cmp, time_entry, update_in_time, update_at, datum_entry, row_at, until}
use Rattle.update_core.specs.Updates.{between, moved, sum_of, slice_of}
use Rattle.update_core.proofs.Consolidated.{consolidated_is, consolidated_from_totals}
use Rattle.update_core.proofs.UpdateLaws.{moments_total, moments_exact, times_total}
use Rattle.update_core.proofs.TallyLaws.{sum_of-cons, sum_of-covered}
use Rattle.remap_core.specs.declared.source_rows.SourceRow.{SourceRow}
use Rattle.remap_core.specs.Bound.{bind}
use Rattle.remap_core.specs.Reclocking.{update_of, bound, reclocked}
use Rattle.remap_core.specs.RemapShards.{IsBindingsOf, NeverFalls}
use Rattle.remap_core.proofs.RemapLaws.{is_by, bound_alike}

-- ---- a slice has the sums of its list at each pair of datum and time
swapped : (r q : Ordering) → is_eq (ordering_then r q) ≡ is_eq (ordering_then q r)
swapped Less Less = refl
swapped Less Equal = refl
swapped Less Greater = refl
swapped Equal Less = refl
swapped Equal Equal = refl
swapped Equal Greater = refl
swapped Greater Less = refl
swapped Greater Equal = refl
swapped Greater Greater = refl

totals_in_time : (es : List ((ℕ × List ℕ) × ℤ)) (d : List ℕ) (t : ℕ) → total moment_cmp (map moment_entry (map update_in_time es)) (d, t)
    ≡ total time_cmp es (t, d)
totals_in_time [] d t = refl
totals_in_time (e ∷ es) d t = λ i. cond (swapped (slice_cmp nat_cmp d e.0.1) (nat_cmp t e.0.0) i) e.1 (pos 0) +ℤ totals_in_time es d t i

pub totals_back : (us : List Update) (d : List ℕ) (t : ℕ) → total moment_cmp (map moment_entry us) (d, t)
    ≡ total time_cmp (map time_entry us) (t, d)
totals_back [] d t = refl
totals_back (u ∷ us) d t = λ i. cond (swapped (slice_cmp nat_cmp d u.datum) (nat_cmp t u.time) i) u.diff (pos 0) +ℤ totals_back us d t i

pub slice_totals : (us : List Update) (f g : Option ℕ) (d : List ℕ) (t : ℕ) → total moment_cmp (map moment_entry (slice_of us f g)) (d, t)
    ≡ total moment_cmp (map moment_entry (between f g us)) (d, t)
slice_totals us f g d t =
    totals_in_time (consolidated time_cmp (map time_entry (between f g us))) d t
    ∙ (consolidated_is times_total (map time_entry (between f g us))).same (t, d)
    ∙ sym (totals_back (between f g us) d t)

pub sum_of-slice : (us : List Update) (f g : Option ℕ) (t : ℕ) → sum_of (slice_of us f g) t ≡ sum_of (between f g us) t
sum_of-slice us f g t =
    sym (sum_of-cons (slice_of us f g) t)
    ∙ ap (λ vs. sum_of vs t)
    (ap (map update_at) (consolidated_from_totals moments_total moments_exact (map moment_entry (slice_of us f g))
    (map moment_entry (between f g us)) (λ k. slice_totals us f g k.0 k.1)))
    ∙ sum_of-cons (between f g us) t

pub sum_of-whole : (us : List Update) (t : ℕ) → sum_of (slice_of us (Some 0) None) t ≡ sum_of us t
sum_of-whole us t = sum_of-slice us (Some 0) None t ∙ sum_of-covered us None t refl

-- ---- the content of rows that have a time
one : (r : SourceRow) (s t : ℕ) (x : Option ℕ) (us : List Update) → s ≤ t → map datum_entry (until t (update_of r s x ++ us))
    ≡ cond (is_by t x) ((r.datum, r.diff) ∷ map datum_entry (until t us)) (map datum_entry (until t us))
one r s t None us le = refl
one r s t (Some u) us le = test (nat_le (max u s) t) (nat_le u t) same
  where
    same : nat_le (max u s) t ≡ nat_le u t
    same = grind (arith, nat_tests)

    test : (a b : Bool) → a ≡ b
        → map datum_entry (cond a (record { datum = r.datum; time = max u s; diff = r.diff } ∷ until t us) (until t us))
        ≡ cond b ((r.datum, r.diff) ∷ map datum_entry (until t us)) (map datum_entry (until t us))
    test true true e = refl
    test true false e = cc
    test false true e = cc
    test false false e = refl

bound_rows : (rs : List SourceRow) (bs cs : List (ℕ × List ℕ)) (s t : ℕ) → s ≤ t
    → ((p o : ℕ) → is_by t (bind bs p o) ≡ is_by t (bind cs p o))
    → map datum_entry (until t (bound rs bs s)) ≡ map datum_entry (until t (bound rs cs s))
unfolding bound
bound_rows [] bs cs s t le h = refl
bound_rows (r ∷ rs) bs cs s t le h =
    one r s t (bind bs r.partition r.offset) (bound rs bs s) le
    ∙ (λ i. cond (h r.partition r.offset i) ((r.datum, r.diff) ∷ bound_rows rs bs cs s t le h i) (bound_rows rs bs cs s t le h i))
    ∙ sym (one r s t (bind cs r.partition r.offset) (bound rs cs s) le)

pub same_content : (rs : List SourceRow) (bs cs : List (ℕ × List ℕ)) (s t : ℕ) → s ≤ t
    → ((p o : ℕ) → is_by t (bind bs p o) ≡ is_by t (bind cs p o)) → sum_of (reclocked rs bs s) t ≡ sum_of (reclocked rs cs s) t
same_content rs bs cs s t le h =
    sum_of-whole (bound rs bs s) t
    ∙ ap (λ es. map row_at (consolidated (slice_cmp nat_cmp) es)) (bound_rows rs bs cs s t le h)
    ∙ sym (sum_of-whole (bound rs cs s) t)

-- the sums of two operators' collections are equal at each time from both sinces on that both uppers cover
pub equal_collections : (us : List Update) (s r : ℕ) (g h : Option ℕ) (bs cs : List (ℕ × List ℕ)) → IsBindingsOf us s g bs
    → IsBindingsOf us r h cs → NeverFalls (moved us s) g → NeverFalls (moved us r) h
    → (rows : List SourceRow) (t : ℕ) → s ≤ t → r ≤ t → covers g t ≡ true → covers h t ≡ true → sum_of (reclocked rows bs 0) t
    ≡ sum_of (reclocked rows cs 0) t
equal_collections us s r g h bs cs b c m n rows t st rt gt ht =
    same_content rows bs cs 0 t (omega arith) (λ p o. bound_alike us s r g h bs cs t p o b c m n st rt gt ht)
