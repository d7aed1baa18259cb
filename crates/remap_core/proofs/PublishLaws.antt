-- What operators publish.
use Rattle.std.proofs.Common.{◌≡◌, ℕ, ◌<◌, ◌≤◌, pos, Bool, true, false, cond, not, ◌&&◌, Option, Some, None, List, [], ◌∷◌, ◌++◌, map, max}
use Rattle.std.proofs.Common.{refl, sym, ap, ◌∙◌, arith}
use Rattle.std.proofs.lemmas.Bool.Decides.{nat_tests}
use Rattle.std.specs.List.{AllByRecursion, list_any}
use Rattle.std.specs.Ordering.{int_eq, is_gt}
use Rattle.std.specs.Prelude.{nat_le, ◌||◌}
use Rattle.update_core.specs.declared.updates.Update.{Update}
use Rattle.update_core.specs.Frontiers.{covers, is_from, frontier_cmp}
use Rattle.update_core.specs.Totals.{total, consolidated}
use Rattle.update_core.specs.Updates.{moment_cmp, moment_entry, time_cmp, time_entry, update_in_time, between, slice_of, moved}
use Rattle.update_core.proofs.Consolidated.{consolidated_from_totals}
use Rattle.update_core.proofs.UpdateLaws.{times_total, times_exact}
use Rattle.remap_core.specs.declared.source_rows.SourceRow.{SourceRow}
use Rattle.remap_core.specs.Bound.{bind}
use Rattle.remap_core.specs.Reclocking.{update_of, bound, reclocked}
use Rattle.update_core.proofs.SliceLaws.{covered_on, slices_join}
use Rattle.remap_core.specs.Offsets.{covered}
use Rattle.remap_core.specs.RemapShards.{change_at, partitions, IsBinding, IsBindingsOf, NeverFalls}
use Rattle.remap_core.proofs.RemapLaws.{is_by, knows, bound_by, bound_alike}
use Rattle.remap_core.proofs.StartLaws.{none_before}
use Rattle.remap_core.proofs.RemapSums.{slice_totals, totals_back}
use Rattle.remap_core.proofs.StepLaws.{between_totals, append_nil}

-- lists with the same sums between two frontiers have the same slice there
slices_alike : (us vs : List Update) (f g : Option ℕ) → ((d : List ℕ) (x : ℕ) → total moment_cmp (map moment_entry (between f g us)) (d, x)
    ≡ total moment_cmp (map moment_entry (between f g vs)) (d, x)) → slice_of us f g ≡ slice_of vs f g
slices_alike us vs f g h = ap (map update_in_time) (consolidated_from_totals times_total times_exact (map time_entry (between f g us))
    (map time_entry (between f g vs))
    (λ k. sym (totals_back (between f g us) k.1 k.0) ∙ h k.1 k.0 ∙ totals_back (between f g vs) k.1 k.0))

-- a slice of the whole is the slice
pub slice_of-whole : (us : List Update) (f g : Option ℕ) → slice_of (slice_of us (Some 0) None) f g ≡ slice_of us f g
slice_of-whole us f g = slices_alike (slice_of us (Some 0) None) us f g (λ d x.
    between_totals (slice_of us (Some 0) None) f g d x
    ∙ ap (λ z. cond (is_from f x && covers g x) z (pos 0)) (slice_totals us (Some 0) None d x ∙ between_totals us (Some 0) None d x
    ∙ ap (λ b. cond (b && true) (total moment_cmp (map moment_entry us) (d, x)) (pos 0)) (from_0 x))
    ∙ sym (between_totals us f g d x))
  where
    from_0 : (x : ℕ) → is_from (Some 0) x ≡ true
    from_0 x = grind (arith, nat_tests)

-- ---- bindings that agree on each time that e covers
pub record Agree (e : Option ℕ) (bs cs : List (ℕ × List ℕ)) : Type 0 where
  pub at : (t p o : ℕ) → covers e t ≡ true → is_by t (bind bs p o) ≡ is_by t (bind cs p o)

-- a time that e covers is the same on both sides
same_time : (e : Option ℕ) (u : ℕ) (y : Option ℕ) → covers e u ≡ true → ((t : ℕ) → covers e t ≡ true → is_by t (Some u) ≡ is_by t y)
    → y ≡ Some u
same_time e u None c h = absurd (wrong (sym (h u c) ∙ itself u))
  where
    itself : (u : ℕ) → nat_le u u ≡ true
    itself u = grind (arith, nat_tests)

    wrong : false ≡ true → ⊥
    wrong e = cc
same_time e u (Some v) c h = ap Some (equal (v_up (nat_le v u) refl) (u_up (nat_le u v) refl))
  where
    itself : (u : ℕ) → nat_le u u ≡ true
    itself u = grind (arith, nat_tests)

    wrong : false ≡ true → ⊥
    wrong e = cc

    equal : v ≤ u → u ≤ v → v ≡ u
    equal a b = omega arith

    v_up : (b : Bool) → nat_le v u ≡ b → v ≤ u
    v_up true e = grind (arith, nat_tests)
    v_up false k = absurd (wrong (sym k ∙ sym (h u c) ∙ itself u))

    below : (e : Option ℕ) → v ≤ u → covers e u ≡ true → covers e v ≡ true
    below None le c = refl
    below (Some e) le c = grind (arith, nat_tests)

    u_up : (b : Bool) → nat_le u v ≡ b → u ≤ v
    u_up true e = grind (arith, nat_tests)
    u_up false k = absurd (wrong (sym k ∙ h v (below e (v_up (nat_le v u) refl) c) ∙ itself v))

-- what a row gives up to e
part_of_row : Option ℕ → SourceRow → Option ℕ → List Update → List Update
part_of_row e r None us = us
part_of_row e r (Some u) us = cond (covers e u) (record { datum = r.datum; time = u; diff = r.diff } ∷ us) us

opened : (e : Option ℕ) (r : SourceRow) (x : Option ℕ) (us : List Update) → between (Some 0) e (update_of r 0 x ++ us)
    ≡ part_of_row e r x (between (Some 0) e us)
unfolding part_of_row
opened e r None us = refl
opened e r (Some u) us = λ i. cond (from_0 (max u 0) i && covers e (same i))
    (record { datum = r.datum; time = same i; diff = r.diff } ∷ between (Some 0) e us) (between (Some 0) e us)
  where
    from_0 : (x : ℕ) → is_from (Some 0) x ≡ true
    from_0 x = grind (arith, nat_tests)

    same : max u 0 ≡ u
    same = omega arith

parts_alike : (e : Option ℕ) (r : SourceRow) (x y : Option ℕ) (us : List Update) → ((t : ℕ) → covers e t ≡ true → is_by t x ≡ is_by t y)
    → part_of_row e r x us ≡ part_of_row e r y us
unfolding part_of_row
parts_alike e r None None us h = refl
parts_alike e r None (Some v) us h = pick (covers e v) refl
  where
    pick : (b : Bool) → covers e v ≡ b → us ≡ cond b (record { datum = r.datum; time = v; diff = r.diff } ∷ us) us
    pick true c = absurd (wrong (same_time e v None c (λ t k. sym (h t k))))
      where
        wrong : None ≡ Some v → ⊥
        wrong e = cc
    pick false c = refl
parts_alike e r (Some u) y us h = pick (covers e u) refl
  where
    other : (y : Option ℕ) → covers e u ≡ false → ((t : ℕ) → covers e t ≡ true → is_by t (Some u) ≡ is_by t y) → us ≡ part_of_row e r y us
    other None c h = refl
    other (Some v) c h = second (covers e v) refl
      where
        second : (b : Bool) → covers e v ≡ b → us ≡ cond b (record { datum = r.datum; time = v; diff = r.diff } ∷ us) us
        second true k = absurd (wrong (sym c ∙ ap (covers e) (inside (same_time e v (Some u) k (λ t j. sym (h t j)))) ∙ k))
          where
            inside : {a b : ℕ} → Some a ≡ Some b → a ≡ b
            inside e = cc

            wrong : false ≡ true → ⊥
            wrong e = cc
        second false k = refl

    pick : (b : Bool) → covers e u ≡ b → cond b (record { datum = r.datum; time = u; diff = r.diff } ∷ us) us ≡ part_of_row e r y us
    pick true c = ap (λ b. cond b (record { datum = r.datum; time = u; diff = r.diff } ∷ us) us) (sym c) ∙ ap (λ z. part_of_row e r z us)
        (sym (same_time e u y c h))
    pick false c = other y c h

rows_alike : (rs : List SourceRow) (e : Option ℕ) (bs cs : List (ℕ × List ℕ)) → Agree e bs cs → between (Some 0) e (bound rs bs 0)
    ≡ between (Some 0) e (bound rs cs 0)
unfolding bound
rows_alike [] e bs cs h = refl
rows_alike (r ∷ rs) e bs cs h =
    opened e r (bind bs r.partition r.offset) (bound rs bs 0)
    ∙ parts_alike e r (bind bs r.partition r.offset) (bind cs r.partition r.offset) (between (Some 0) e (bound rs bs 0))
    (λ t c. h.at t r.partition r.offset c)
    ∙ ap (part_of_row e r (bind cs r.partition r.offset)) (rows_alike rs e bs cs h)
    ∙ sym (opened e r (bind cs r.partition r.offset) (bound rs cs 0))

-- the collections of bindings that agree on each time that e covers are the same up to e
pub published_alike : (rs : List SourceRow) (e : Option ℕ) (bs cs : List (ℕ × List ℕ)) → Agree e bs cs
    → slice_of (reclocked rs bs 0) (Some 0) e ≡ slice_of (reclocked rs cs 0) (Some 0) e
published_alike rs e bs cs h =
    slice_of-whole (bound rs bs 0) (Some 0) e
    ∙ ap (λ us. map update_in_time (consolidated time_cmp (map time_entry us))) (rows_alike rs e bs cs h)
    ∙ sym (slice_of-whole (bound rs cs 0) (Some 0) e)

-- ---- operators whose readers joined at one time
none_bound_before : (us : List Update) (s : ℕ) (g : Option ℕ) (bs : List (ℕ × List ℕ)) (t p o : ℕ)
    → AllByRecursion (IsBinding (moved us s) g) bs → t < s → knows bs t p o ≡ false
none_bound_before us s g [] t p o h lt = refl
none_bound_before us s g (b ∷ bs) t p o h lt = pick (nat_le b.0 t) refl (none_bound_before us s g bs t p o h.1 lt)
  where
    zeros : (ps : List ℕ) → b.0 < s → list_any (λ p. not (int_eq (change_at (moved us s) p b.0) (pos 0))) ps ≡ false
    zeros [] lt = refl
    zeros (p ∷ ps) lt = λ i. not (int_eq (none_before us s (p ∷ []) b.0 lt i) (pos 0)) || zeros ps lt i

    wrong : true ≡ false → ⊥
    wrong e = cc

    early : nat_le b.0 t ≡ true → b.0 < s
    early e = grind (arith, nat_tests, lt)

    pick : (x : Bool) → nat_le b.0 t ≡ x → knows bs t p o ≡ false → (x && covered b.1 p o) || knows bs t p o ≡ false
    pick true e rest = absurd (wrong (sym (h.0.changes) ∙ zeros partitions (early e)))
    pick false e rest = rest

-- they agree as far as both have come
pub agree : (us : List Update) (s : ℕ) (g h e : Option ℕ) (bs cs : List (ℕ × List ℕ)) → IsBindingsOf us s g bs → IsBindingsOf us s h cs
    → NeverFalls (moved us s) g → NeverFalls (moved us s) h
    → is_gt (frontier_cmp e g) ≡ false → is_gt (frontier_cmp e h) ≡ false → Agree e bs cs
agree us s g h e bs cs b c m n eg eh = record { at = λ t p o k. pick t p o k (nat_le s t) refl }
  where
    from : (t : ℕ) → nat_le s t ≡ true → s ≤ t
    from t e = grind (arith, nat_tests)

    before : (t : ℕ) → nat_le s t ≡ false → t < s
    before t e = grind (arith, nat_tests)

    pick : (t p o : ℕ) → covers e t ≡ true → (x : Bool) → nat_le s t ≡ x → is_by t (bind bs p o) ≡ is_by t (bind cs p o)
    pick t p o k true f = bound_alike us s s g h bs cs t p o b c m n (from t f) (from t f) (covered_on e g t eg k) (covered_on e h t eh k)
    pick t p o k false f =
        bound_by bs t p o ∙ none_bound_before us s g bs t p o b.each (before t f)
        ∙ sym (bound_by cs t p o ∙ none_bound_before us s h cs t p o c.each (before t f))

-- what one has published up to e, followed by what another publishes from e up to u, is the collection of the other up to u
pub published_goes_on : (rs : List SourceRow) (e u : Option ℕ) (bs cs : List (ℕ × List ℕ)) → Agree e bs cs → is_gt (frontier_cmp (Some 0) e)
    ≡ false → is_gt (frontier_cmp e u) ≡ false
    → slice_of (reclocked rs bs 0) (Some 0) e ++ slice_of (reclocked rs cs 0) e u ≡ slice_of (reclocked rs cs 0) (Some 0) u
published_goes_on rs e u bs cs h e0 eu =
    (λ i. published_alike rs e bs cs h i ++ slice_of (sym (append_nil (reclocked rs cs 0)) i) e u)
    ∙ slices_join (reclocked rs cs 0) [] (Some 0) e u e0 eu (record { all = tt })
    ∙ ap (λ us. slice_of us (Some 0) u) (append_nil (reclocked rs cs 0))
