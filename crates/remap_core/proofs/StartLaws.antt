-- A snapshot at the time from which a list is known starts its bindings.
use Rattle.std.proofs.Common.{◌≡◌, ℕ, zero, suc, ◌<◌, ℤ, pos, ◌+ℤ◌, Bool, true, false, cond, not, ◌&&◌, Option, None, List, [], ◌∷◌, map}
use Rattle.std.proofs.Common.{max, refl, sym, ap, ◌∙◌, arith}
use Rattle.std.proofs.Math.IntN.{+ℤ_idl}
use Rattle.std.proofs.lemmas.Int.{ints}
use Rattle.std.proofs.lemmas.Bool.Decides.{nat_tests}
use Rattle.std.proofs.lemmas.Cmp.{nat_list_cmp_total}
use Rattle.std.specs.Cmp.{unsigned_tied}
use Rattle.std.specs.Cmp.Lexicographic.{slice_cmp}
use Rattle.std.specs.List.{AllByRecursion, list_any}
use Rattle.std.specs.Ordering.{nat_cmp, eq_by_cmp, int_eq}
use Rattle.std.specs.Prelude.{nat_le, ◌==◌}
use Rattle.update_core.specs.declared.updates.Update.{Update}
use Rattle.update_core.specs.declared.rows.Row.{Row}
use Rattle.update_core.specs.Frontiers.{covers}
use Rattle.update_core.specs.Totals.{total, consolidated}
use Rattle.update_core.specs.Updates.{moment_cmp, moment_entry, datum_entry, row_entry, row_at, until, moved, sum_of}
use Rattle.update_core.proofs.Consolidated.{consolidated_is}
use Rattle.update_core.proofs.UpdateLaws.{until-moved}
use Rattle.remap_core.specs.RemapShards.{partition_sum, change_at, partitions, changes, IsBindings, IsBindingsOf, NeverFalls}
use Rattle.remap_core.specs.Extending.{with_rows, Raises, InTime, rows_at}
use Rattle.remap_core.proofs.RemapLaws.{both_tied, sum_start, sum_step}
use Rattle.remap_core.proofs.StepLaws.{Part, rows_extend, whole_from_part, rises_in_whole}

-- ---- what a content has as updates at a time
one_more : (b c : Bool) (z t : ℤ) → cond (b && c) z (pos 0) +ℤ cond c t (pos 0) ≡ cond c (cond b z (pos 0) +ℤ t) (pos 0)
one_more true true z t = refl
one_more false true z t = refl
one_more true false z t = refl
one_more false false z t = refl

rows_totals : (rows : List Row) (s : ℕ) (d : List ℕ) (x : ℕ) → total moment_cmp (map moment_entry (rows_at s rows)) (d, x)
    ≡ cond (x == s) (total (slice_cmp nat_cmp) (map row_entry rows) d) (pos 0)
rows_totals [] s d x = nothing (x == s)
  where
    nothing : (b : Bool) → pos 0 ≡ cond b (pos 0) (pos 0)
    nothing true = refl
    nothing false = refl
rows_totals (r ∷ rows) s d x =
    (λ i. cond ((both_tied (slice_cmp nat_cmp d r.datum) (nat_cmp x s) ∙ ap (λ b. eq_by_cmp (slice_cmp nat_cmp) d r.datum && b)
    (unsigned_tied x s)) i) r.diff (pos 0) +ℤ rows_totals rows s d x i)
    ∙ one_more (eq_by_cmp (slice_cmp nat_cmp) d r.datum) (x == s) r.diff (total (slice_cmp nat_cmp) (map row_entry rows) d)

rows_back : (es : List (List ℕ × ℤ)) → map row_entry (map row_at es) ≡ es
rows_back [] = refl
rows_back (e ∷ es) = λ i. e ∷ rows_back es i

content_totals : (us : List Update) (s q x : ℕ) → change_at (rows_at s (sum_of us s)) q x ≡ cond (x == s) (partition_sum us q s) (pos 0)
content_totals us s q x =
    rows_totals (sum_of us s) s (q ∷ []) x
    ∙ ap (λ z. cond (x == s) z (pos 0))
    (ap (λ es. total (slice_cmp nat_cmp) es (q ∷ [])) (rows_back (consolidated (slice_cmp nat_cmp) (map datum_entry (until s us))))
    ∙ (consolidated_is nat_list_cmp_total (map datum_entry (until s us))).same (q ∷ []))

-- ---- a list that is moved to s has nothing before s
pub none_before : (us : List Update) (s : ℕ) (d : List ℕ) (x : ℕ) → x < s → total moment_cmp (map moment_entry (moved us s)) (d, x) ≡ pos 0
none_before [] s d x h = refl
none_before (u ∷ us) s d x h =
    (λ i. cond ((both_tied (slice_cmp nat_cmp d u.datum) (nat_cmp x (max u.time s)) ∙ ap (λ b. eq_by_cmp (slice_cmp nat_cmp) d u.datum && b)
    (unsigned_tied x (max u.time s) ∙ differs) ∙ and_false (eq_by_cmp (slice_cmp nat_cmp) d u.datum)) i) u.diff
    (pos 0) +ℤ none_before us s d x h i) ∙ +ℤ_idl (pos 0)
  where
    differs : (x == max u.time s) ≡ false
    differs = grind (arith, nat_tests)

    and_false : (a : Bool) → a && false ≡ false
    and_false true = refl
    and_false false = refl

no_sum_before : (us : List Update) (s q x : ℕ) → x < s → partition_sum (moved us s) q x ≡ pos 0
no_sum_before us s q zero h = sum_start (moved us s) q ∙ none_before us s (q ∷ []) 0 h
no_sum_before us s q (suc x) h = sum_step (moved us s) q x
    ∙ (λ i. no_sum_before us s q x (omega arith) i +ℤ none_before us s (q ∷ []) (suc x) h i) ∙ +ℤ_idl (pos 0)

first_change : (us : List Update) (s q : ℕ) → change_at (moved us s) q s ≡ partition_sum (moved us s) q s
first_change us zero q = sym (sum_start (moved us zero) q)
first_change us (suc s) q =
    sym (sum_step (moved us (suc s)) q s ∙ ap (λ z. z +ℤ change_at (moved us (suc s)) q (suc s))
    (no_sum_before us (suc s) q s (omega arith)) ∙ +ℤ_idl _)

same_sum : (us : List Update) (s q : ℕ) → change_at (moved us s) q s ≡ partition_sum us q s
same_sum us s q = first_change us s q ∙ ap (λ es. total (slice_cmp nat_cmp) es (q ∷ [])) (until-moved us s s (omega arith))

-- where the frontier covers s, and no change after s, the content at s is the part up to the frontier
pub content_part : (us : List Update) (s : ℕ) (g : Option ℕ) → covers g s ≡ true
    → ((q x : ℕ) → s < x → covers g x ≡ true → change_at (moved us s) q x ≡ pos 0) → Part (rows_at s (sum_of us s)) (moved us s) g
content_part us s g c beyond = record { at = λ q x. content_totals us s q x ∙ pick q x (x == s) refl }
  where
    same : (x : ℕ) → (x == s) ≡ true → x ≡ s
    same x e = grind (arith, nat_tests)

    zero_either : (b : Bool) (z : ℤ) → (b ≡ true → z ≡ pos 0) → pos 0 ≡ cond b z (pos 0)
    zero_either true z h = sym (h refl)
    zero_either false z h = refl

    other : (q x : ℕ) (b : Bool) → (x == s) ≡ false → nat_le x s ≡ b → covers g x ≡ true → change_at (moved us s) q x ≡ pos 0
    other q x true e f k = none_before us s (q ∷ []) x (grind (arith, nat_tests))
    other q x false e f k = beyond q x (grind (arith, nat_tests)) k

    pick : (q x : ℕ) (b : Bool) → (x == s) ≡ b → cond b (partition_sum us q s) (pos 0) ≡ cond (covers g x) (change_at (moved us s) q x)
        (pos 0)
    pick q x true e = sym (same_sum us s q)
        ∙ (λ i. cond (sym (ap (covers g) (same x e) ∙ c) i) (change_at (moved us s) q (sym (same x e) i)) (pos 0))
    pick q x false e = zero_either (covers g x) (change_at (moved us s) q x) (other q x (nat_le x s) e refl)

-- ---- bindings of no updates
no_updates : IsBindings [] None []
no_updates = record { rising = tt; each = tt; all = λ t c e. absurd (none t e) }
  where
    zeros : (ps : List ℕ) (t : ℕ) → list_any (λ p. not (int_eq (change_at [] p t) (pos 0))) ps ≡ false
    zeros [] t = refl
    zeros (p ∷ ps) t = zeros ps t

    none : (t : ℕ) → changes [] t ≡ true → ⊥
    none t e = apart (sym e ∙ zeros partitions t)
      where
        apart : true ≡ false → ⊥
        apart e = cc

none_fall : NeverFalls [] None
none_fall = record { rises = λ p t c. omega (arith, ints) }

same_time : (s : ℕ) (rows : List Row) → InTime s (rows_at s rows)
same_time s [] = tt
same_time s (r ∷ rows) = (omega arith, same_time s rows)

-- where each row of the snapshot at s raises a partition, they make the bindings up to the frontier from which a listen goes on
pub snapshot_starts : (us : List Update) (s : ℕ) (g : Option ℕ) → covers g s ≡ true
    → ((q x : ℕ) → s < x → covers g x ≡ true → change_at (moved us s) q x ≡ pos 0) → AllByRecursion Raises (rows_at s (sum_of us s))
    → IsBindingsOf us s g (with_rows [] (rows_at s (sum_of us s))) × NeverFalls (moved us s) g
snapshot_starts us s g c beyond raises =
    let rows = rows_at s (sum_of us s) in
    let both = rows_extend [] [] s rows no_updates none_fall tt (same_time s (sum_of us s)) raises in
    let is = content_part us s g c beyond in
    (whole_from_part rows (moved us s) g (with_rows [] rows) is both.0, rises_in_whole rows (moved us s) g is both.1)
