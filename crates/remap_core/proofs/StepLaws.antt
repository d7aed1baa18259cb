-- A snapshot starts bindings, and a listen's step extends them.
use Rattle.std.proofs.Common.{◌≡◌, ℕ, zero, suc, ◌≤◌, ℤ, pos, ◌+ℤ◌, ◌≤ℤ◌, Bool, true, false, cond, not, ◌&&◌, ◌||◌, Option, Some, None}
use Rattle.std.proofs.Common.{List, [], ◌∷◌, ◌++◌, map, max, refl, sym, ap, subst, ◌∙◌, arith}
use Rattle.std.proofs.Math.IntN.{+ℤ_idl, +ℤ_idr}
use Rattle.std.proofs.lemmas.Int.{ints}
use Rattle.std.proofs.lemmas.Bool.Decides.{nat_tests}
use Rattle.std.specs.declared.cmp.Ordering.{Ordering}
use Rattle.std.specs.declared.cmp.Ordering.TheVariants.{Less, Equal, Greater}
use Rattle.std.specs.Cmp.{unsigned_tied}
use Rattle.std.specs.Cmp.Lexicographic.{slice_cmp}
use Rattle.std.specs.List.{AllByRecursion, list_any}
use Rattle.std.specs.List.Sorted.{IsStrictlySortedBy}
use Rattle.std.specs.Map.{keys_of}
use Rattle.std.specs.Ordering.{nat_cmp, eq_by_cmp, int_eq, is_gt, ordering_then}
use Rattle.std.specs.Prelude.{nat_le, ◌==◌}
use Rattle.update_core.specs.declared.updates.Update.{Update}
use Rattle.update_core.specs.Frontiers.{covers, is_from, frontier_cmp}
use Rattle.update_core.specs.Totals.{total, consolidated}
use Rattle.update_core.specs.Updates.{moment_cmp, moment_entry, time_cmp, time_entry, update_in_time, between, moved, moved_by, slice_of}
use Rattle.update_core.proofs.Consolidated.{consolidated_is, total-append, keys-consolidated}
use Rattle.update_core.proofs.SliceLaws.{apart, covered_on}
use Rattle.update_core.proofs.UpdateLaws.{entries-append, times_total}
use Rattle.remap_core.specs.RemapShards.{partition_sum, change_at, partitions, changes, offset_of, frontier_at, IsBinding, IsBindings}
use Rattle.remap_core.specs.RemapShards.{IsBindingsOf, NeverFalls}
use Rattle.remap_core.specs.Extending.{with_row, with_rows, before, partition_of, Raises, InTime, UpToTime}
use Rattle.remap_core.proofs.RemapLaws.{both_tied, sum_start, sum_step, map_same, all_of}
use Rattle.remap_core.proofs.RemapSums.{slice_totals}
use Rattle.remap_core.proofs.RowLaws.{row_of, row_extends, never_falls_new, all_kept, all_push, any_same}

-- ---- some rows, one after the other
pub append_nil : (us : List Update) → us ++ [] ≡ us
append_nil [] = refl
append_nil (u ∷ us) = λ i. u ∷ append_nil us i

append_one : (us : List Update) (u : Update) (vs : List Update) → (us ++ u ∷ []) ++ vs ≡ us ++ u ∷ vs
append_one [] u vs = refl
append_one (w ∷ us) u vs = λ i. w ∷ append_one us u vs i

up_further : (t x : ℕ) (bs : List (ℕ × List ℕ)) → t ≤ x → UpToTime t bs → UpToTime x bs
up_further t x [] le h = tt
up_further t x (b ∷ bs) le h = (omega (arith, h.0), up_further t x bs le h.1)

with_row_up : (bs : List (ℕ × List ℕ)) (t p n : ℕ) → UpToTime t bs → UpToTime t (with_row bs t p n)
with_row_up bs t p n h = all_push (λ b. b.0 ≤ t) (before t bs) _ (all_kept (λ b. b.0 ≤ t) (λ b. b.0 ≤ t) t bs (λ b e x. x) h) (omega arith)

pub rows_extend : (us : List Update) (bs : List (ℕ × List ℕ)) (t : ℕ) (rs : List Update) → IsBindings us None bs → NeverFalls us None
    → UpToTime t bs → InTime t rs → AllByRecursion Raises rs
    → IsBindings (us ++ rs) None (with_rows bs rs) × NeverFalls (us ++ rs) None
rows_extend us bs t [] is up le times raises =
    (subst (λ l. IsBindings l None bs) (sym (append_nil us)) is, subst (λ l. NeverFalls l None) (sym (append_nil us)) up)
rows_extend us bs t (u ∷ rs) is up le times raises =
    let r = raises.0 in
    let here : UpToTime u.time bs = up_further t u.time bs times.0 le in
    let one : IsBindings (us ++ row_of r.partition u.time r.amount ∷ []) None (with_row bs u.time r.partition r.amount) =
    row_extends us bs r.partition u.time r.amount is up here r.known r.some in
    let rest = rows_extend (us ++ row_of r.partition u.time r.amount ∷ []) (with_row bs u.time r.partition r.amount) u.time rs one
    (never_falls_new us r.partition u.time r.amount up) (with_row_up bs u.time r.partition r.amount here) times.1 raises.1 in
    let list : (us ++ row_of r.partition u.time r.amount ∷ []) ++ rs ≡ us ++ u ∷ rs = append_one us (row_of r.partition u.time r.amount) rs
    ∙ ap (λ v. us ++ v ∷ rs) (sym r.is) in
    let bindings : with_row bs u.time r.partition r.amount ≡ with_row bs u.time (partition_of u.datum) (offset_of u.diff) =
    λ i. with_row bs u.time (partition_of (sym r.is i).datum) (offset_of (sym r.is i).diff) in (
      subst (λ l. IsBindings (us ++ u ∷ rs) None (with_rows l rs)) bindings
          (subst (λ l. IsBindings l None (with_rows (with_row bs u.time r.partition r.amount) rs)) list rest.0),
      subst (λ l. NeverFalls l None) list rest.1,
    )

-- ---- a part of a list: what it has at the times that g covers
pub record Part (part us : List Update) (g : Option ℕ) : Type 0 where
  pub at : (q x : ℕ) → change_at part q x ≡ cond (covers g x) (change_at us q x) (pos 0)

none_of_zeros : (f : ℕ → ℤ) (ps : List ℕ) → ((p : ℕ) → f p ≡ pos 0) → list_any (λ p. not (int_eq (f p) (pos 0))) ps ≡ false
none_of_zeros f [] h = refl
none_of_zeros f (p ∷ ps) h = λ i. not (int_eq (h p i) (pos 0)) || none_of_zeros f ps h i

part_changes : (part us : List Update) (g : Option ℕ) (x : ℕ) → Part part us g → changes part x ≡ covers g x && changes us x
part_changes part us g x h = pick (covers g x) refl
  where
    pick : (b : Bool) → covers g x ≡ b → changes part x ≡ b && changes us x
    pick true e = any_same (λ q. not (int_eq (change_at part q x) (pos 0))) (λ q. not (int_eq (change_at us q x) (pos 0))) partitions
        (λ q. ap (λ z. not (int_eq z (pos 0))) (h.at q x ∙ ap (λ b. cond b (change_at us q x) (pos 0)) e))
    pick false e = none_of_zeros (λ q. change_at part q x) partitions (λ q. h.at q x ∙ ap (λ b. cond b (change_at us q x) (pos 0)) e)

covers_less : (g : Option ℕ) (t : ℕ) → covers g (suc t) ≡ true → covers g t ≡ true
covers_less None t h = refl
covers_less (Some g) t h = grind (arith, nat_tests)

part_sums : (part us : List Update) (g : Option ℕ) → Part part us g → (q x : ℕ) → covers g x ≡ true → partition_sum part q x
    ≡ partition_sum us q x
part_sums part us g h q zero c = sum_start part q ∙ h.at q 0 ∙ ap (λ b. cond b (change_at us q 0) (pos 0)) c ∙ sym (sum_start us q)
part_sums part us g h q (suc x) c =
    sum_step part q x
    ∙ (λ i. part_sums part us g h q x (covers_less g x c) i +ℤ (h.at q (suc x) ∙ ap (λ b. cond b (change_at us q (suc x)) (pos 0)) c) i)
    ∙ sym (sum_step us q x)

part_frontier : (part us : List Update) (g : Option ℕ) → Part part us g → (x : ℕ) → covers g x ≡ true
    → frontier_at part x ≡ frontier_at us x
part_frontier part us g h x c = map_same (λ q. offset_of (partition_sum part q x)) (λ q. offset_of (partition_sum us q x)) partitions
    (all_of (λ q. offset_of (partition_sum part q x) ≡ offset_of (partition_sum us q x)) partitions
    (λ q. ap offset_of (part_sums part us g h q x c)))

both_true : (a b : Bool) → a && b ≡ true → (a ≡ true) × (b ≡ true)
both_true true true e = (refl, refl)
both_true true false e = cc
both_true false b e = cc

all_to : (P Q : ℕ × List ℕ → Type 0) (bs : List (ℕ × List ℕ)) → ((b : ℕ × List ℕ) → P b → Q b) → AllByRecursion P bs → AllByRecursion Q bs
all_to P Q [] f h = tt
all_to P Q (b ∷ bs) f h = (f b h.0, all_to P Q bs f h.1)

pub whole_from_part : (part us : List Update) (g : Option ℕ) (bs : List (ℕ × List ℕ)) → Part part us g → IsBindings part None bs
    → IsBindings us g bs
whole_from_part part us g bs h is = record {
  rising = is.rising;
  each = all_to (IsBinding part None) (IsBinding us g) bs (λ b x.
      let two = both_true (covers g b.0) (changes us b.0) (sym (part_changes part us g b.0 h) ∙ x.changes) in
      record { covered = two.0; changes = two.1; offsets = x.offsets ∙ part_frontier part us g h b.0 two.0 }) is.each;
  all = λ t c e. is.all t refl (part_changes part us g t h ∙ (λ i. c i && e i));
}

pub part_from_whole : (part us : List Update) (g : Option ℕ) (bs : List (ℕ × List ℕ)) → Part part us g → IsBindings us g bs
    → IsBindings part None bs
part_from_whole part us g bs h is = record {
  rising = is.rising;
  each = all_to (IsBinding us g) (IsBinding part None) bs (λ b x. record {
    covered = refl;
    changes = part_changes part us g b.0 h ∙ (λ i. x.covered i && x.changes i);
    offsets = x.offsets ∙ sym (part_frontier part us g h b.0 x.covered);
  }) is.each;
  all = λ t c e. let two = both_true (covers g t) (changes us t) (sym (part_changes part us g t h) ∙ e) in is.all t two.0 two.1;
}

rises_in_part : (part us : List Update) (g : Option ℕ) → Part part us g → NeverFalls us g → NeverFalls part None
rises_in_part part us g h up = record { rises = λ q x c. subst (λ z. pos 0 ≤ℤ z) (sym (h.at q x)) (pick q x (covers g x) refl) }
  where
    pick : (q x : ℕ) (b : Bool) → covers g x ≡ b → pos 0 ≤ℤ cond b (change_at us q x) (pos 0)
    pick q x true e = up.rises q x e
    pick q x false e = omega (arith, ints)

pub rises_in_whole : (part us : List Update) (g : Option ℕ) → Part part us g → NeverFalls part None → NeverFalls us g
rises_in_whole part us g h up = record {
  rises = λ q x c. subst (λ z. pos 0 ≤ℤ z) (h.at q x ∙ ap (λ b. cond b (change_at us q x) (pos 0)) c)
      (up.rises q x refl);
}

-- ---- parts by time
tests_kept : (f g : Option ℕ) (x y : ℕ) → (x == y) ≡ true → is_from f y && covers g y ≡ is_from f x && covers g x
tests_kept f g x y e = ap (λ k. is_from f k && covers g k) (same x y e)
  where
    same : (x y : ℕ) → (x == y) ≡ true → y ≡ x
    same x y e = grind (arith, nat_tests)

key_time : (d e : List ℕ) (x y : ℕ) → eq_by_cmp moment_cmp (d, x) (e, y) ≡ true → (x == y) ≡ true
key_time d e x y h = sym (unsigned_tied x y) ∙ second (eq_by_cmp (slice_cmp nat_cmp) d e) (eq_by_cmp nat_cmp x y)
    (sym (both_tied (slice_cmp nat_cmp d e) (nat_cmp x y)) ∙ h)
  where
    second : (a b : Bool) → a && b ≡ true → b ≡ true
    second true b h = h
    second false b h = cc

opened : (c : Bool) (w : Update) (ws : List Update) (k : List ℕ × ℕ) → total moment_cmp (map moment_entry (cond c (w ∷ ws) ws)) k
    ≡ cond c (cond (eq_by_cmp moment_cmp k (w.datum, w.time)) w.diff (pos 0)) (pos 0) +ℤ total moment_cmp (map moment_entry ws) k
opened true w ws k = refl
opened false w ws k = sym (+ℤ_idl _)

picked : (b c e : Bool) (z t : ℤ) → (e ≡ true → b ≡ c) → cond b (cond e z (pos 0)) (pos 0) +ℤ cond c t (pos 0)
    ≡ cond c (cond e z (pos 0) +ℤ t) (pos 0)
picked true true e z t h = refl
picked false true true z t h = absurd (wrong (h refl))
  where
    wrong : false ≡ true → ⊥
    wrong e = cc
picked false true false z t h = refl
picked true false true z t h = absurd (wrong (h refl))
  where
    wrong : true ≡ false → ⊥
    wrong e = cc
picked true false false z t h = refl
picked false false e z t h = refl

pub between_totals : (us : List Update) (f g : Option ℕ) (d : List ℕ) (x : ℕ) → total moment_cmp (map moment_entry (between f g us)) (d, x)
    ≡ cond (is_from f x && covers g x) (total moment_cmp (map moment_entry us) (d, x)) (pos 0)
between_totals [] f g d x = nothing (is_from f x && covers g x)
  where
    nothing : (b : Bool) → pos 0 ≡ cond b (pos 0) (pos 0)
    nothing true = refl
    nothing false = refl
between_totals (u ∷ us) f g d x =
    opened (is_from f u.time && covers g u.time) u (between f g us) (d, x)
    ∙ ap (λ z. cond (is_from f u.time && covers g u.time) (cond (eq_by_cmp moment_cmp (d, x) (u.datum, u.time)) u.diff (pos 0))
    (pos 0) +ℤ z) (between_totals us f g d x)
    ∙ picked (is_from f u.time && covers g u.time) (is_from f x && covers g x) (eq_by_cmp moment_cmp (d, x) (u.datum, u.time)) u.diff
    (total moment_cmp (map moment_entry us) (d, x)) (λ e. tests_kept f g x u.time (key_time d u.datum x u.time e))

pub part_of : (us : List Update) (g : Option ℕ) → Part (between (Some 0) g us) us g
part_of us g = record {
  at = λ q x. between_totals us (Some 0) g (q ∷ []) x ∙ ap (λ b. cond (b && covers g x) (change_at us q x) (pos 0))
      (from_0 x);
}
  where
    from_0 : (x : ℕ) → is_from (Some 0) x ≡ true
    from_0 x = grind (arith, nat_tests)

-- a part and the slice from its frontier on are a part
pub part_step : (part us : List Update) (g h : Option ℕ) → Part part us g → is_gt (frontier_cmp g h) ≡ false
    → Part (part ++ slice_of us g h) us h
part_step part us g h is le = record {
  at = λ q x.
      ap (λ es. total moment_cmp es (q ∷ [], x)) (entries-append part (slice_of us g h))
      ∙ total-append moment_cmp (map moment_entry part) (map moment_entry (slice_of us g h)) (q ∷ [], x)
      ∙ (λ i. is.at q x i +ℤ (slice_totals us g h (q ∷ []) x ∙ between_totals us g h (q ∷ []) x
      ∙ ap (λ b. cond (b && covers h x) (change_at us q x) (pos 0)) (apart g x)) i)
      ∙ joined (covers g x) (covers h x) (change_at us q x) (covered_on g h x le);
}
  where
    joined : (a b : Bool) (z : ℤ) → (a ≡ true → b ≡ true) → cond a z (pos 0) +ℤ cond (not a && b) z (pos 0) ≡ cond b z (pos 0)
    joined true true z e = +ℤ_idr z
    joined true false z e = absurd (wrong (e refl))
      where
        wrong : false ≡ true → ⊥
        wrong e = cc
    joined false true z e = +ℤ_idl z
    joined false false z e = refl

-- ---- slices in the order of time
less_time : (a b : ℕ × List ℕ) → time_cmp a b ≡ Less → a.0 ≤ b.0
less_time a b h = pick (nat_cmp a.0 b.0) refl h
  where
    pick : (r : Ordering) → nat_cmp a.0 b.0 ≡ r → ordering_then r (slice_cmp nat_cmp a.1 b.1) ≡ Less → a.0 ≤ b.0
    pick Less e h = grind (arith, nat_tests)
    pick Equal e h = grind (arith, nat_tests)
    pick Greater e h = cc

less_times : (a : ℕ × List ℕ) (ks : List (ℕ × List ℕ)) → AllByRecursion (λ k. time_cmp a k ≡ Less) ks → AllByRecursion (λ k. a.0 ≤ k.0) ks
less_times a [] h = tt
less_times a (k ∷ ks) h = (less_time a k h.0, less_times a ks h.1)

in_order : (es : List ((ℕ × List ℕ) × ℤ)) (t : ℕ) → AllByRecursion (λ k. t ≤ k.0) (keys_of es) → IsStrictlySortedBy time_cmp (keys_of es)
    → InTime t (map update_in_time es)
unfolding IsStrictlySortedBy
in_order [] t h up = tt
in_order (e ∷ es) t h up = (h.0, in_order es e.0.0 (less_times e.0 (keys_of es) up.0) up.1)

from_keys : (f : ℕ) (h : Option ℕ) (us : List Update) → AllByRecursion (λ k. f ≤ k.0) (keys_of (map time_entry (between (Some f) h us)))
from_keys f h [] = tt
from_keys f h (u ∷ us) = pick (is_from (Some f) u.time) (covers h u.time) refl (from_keys f h us)
  where
    from : is_from (Some f) u.time ≡ true → f ≤ u.time
    from e = grind (arith, nat_tests)

    pick : (a b : Bool) → is_from (Some f) u.time ≡ a → AllByRecursion (λ (k : ℕ × List ℕ). f ≤ k.0)
        (keys_of (map time_entry (between (Some f) h us))) → AllByRecursion (λ (k : ℕ × List ℕ). f ≤ k.0)
        (keys_of (map time_entry (cond (a && b) (u ∷ between (Some f) h us) (between (Some f) h us))))
    pick true true e rest = (from e, rest)
    pick true false e rest = rest
    pick false b e rest = rest

pub slice_in_time : (us : List Update) (f : ℕ) (h : Option ℕ) → InTime f (slice_of us (Some f) h)
slice_in_time us f h = in_order (consolidated time_cmp (map time_entry (between (Some f) h us))) f
    (keys-consolidated time_cmp (λ k. f ≤ k.0) (map time_entry (between (Some f) h us)) (from_keys f h us))
    (consolidated_is times_total (map time_entry (between (Some f) h us))).rising

-- a move to a time that f covers leaves what is from f on
between-moved : (us : List Update) (s : ℕ) (f g : Option ℕ) → covers f s ≡ true → between f g (moved us s) ≡ between f g us
between-moved [] s f g c = refl
between-moved (u ∷ us) s f g c = pick (nat_le s u.time) refl (between-moved us s f g c)
  where
    keeps : nat_le s u.time ≡ true → max u.time s ≡ u.time
    keeps e = grind (arith, nat_tests)

    lies : nat_le s u.time ≡ false → max u.time s ≡ s
    lies e = grind (arith, nat_tests)

    not_from : (f : Option ℕ) (t : ℕ) → covers f t ≡ true → is_from f t ≡ false
    not_from f t c = apart f t ∙ ap not c

    earlier : (f : Option ℕ) → nat_le s u.time ≡ false → covers f s ≡ true → covers f u.time ≡ true
    earlier None e c = refl
    earlier (Some f) e c = grind (arith, nat_tests)

    pick : (b : Bool) → nat_le s u.time ≡ b → between f g (moved us s) ≡ between f g us
        → cond (is_from f (max u.time s) && covers g (max u.time s)) (moved_by s u ∷ between f g (moved us s)) (between f g (moved us s))
        ≡ cond (is_from f u.time && covers g u.time) (u ∷ between f g us) (between f g us)
    pick true e rest = λ i. cond (is_from f (keeps e i) && covers g (keeps e i)) (record u { time = keeps e i } ∷ rest i) (rest i)
    pick false e rest =
        ap (λ b. cond (b && covers g (max u.time s)) (moved_by s u ∷ between f g (moved us s)) (between f g (moved us s)))
        (ap (is_from f) (lies e) ∙ not_from f s c)
        ∙ rest
        ∙ ap (λ b. cond (b && covers g u.time) (u ∷ between f g us) (between f g us)) (sym (not_from f u.time (earlier f e c)))

pub slice-moved : (us : List Update) (s : ℕ) (f g : Option ℕ) → covers f s ≡ true → slice_of (moved us s) f g ≡ slice_of us f g
slice-moved us s f g c = ap (λ vs. map update_in_time (consolidated time_cmp (map time_entry vs))) (between-moved us s f g c)

-- ---- a listen's step
up_to : (us : List Update) (f : ℕ) (bs : List (ℕ × List ℕ)) → AllByRecursion (IsBinding us (Some f)) bs → UpToTime f bs
up_to us f [] h = tt
up_to us f (b ∷ bs) h = (less (h.0.covered), up_to us f bs h.1)
  where
    less : covers (Some f) b.0 ≡ true → b.0 ≤ f
    less e = grind (arith, nat_tests)

none_from : (us : List Update) → between None None us ≡ []
none_from [] = refl
none_from (u ∷ us) = none_from us

nothing : (us : List Update) → slice_of us None None ≡ []
unfolding consolidated
nothing us = ap (λ vs. map update_in_time (consolidated time_cmp (map time_entry vs))) (none_from us)

step_within : (us : List Update) (g h : Option ℕ) (bs : List (ℕ × List ℕ)) → IsBindings us g bs → NeverFalls us g → is_gt (frontier_cmp g h)
    ≡ false → AllByRecursion Raises (slice_of us g h)
    → IsBindings us h (with_rows bs (slice_of us g h)) × NeverFalls us h
step_within us None (Some h) bs is up le raises = cc
step_within us None None bs is up le raises = (subst (λ l. IsBindings us None (with_rows bs l)) (sym (nothing us)) is, up)
step_within us (Some f) h bs is up le raises =
    let part = between (Some 0) (Some f) us in
    let is_part : Part part us (Some f) = part_of us (Some f) in
    let both = rows_extend part bs f (slice_of us (Some f) h) (part_from_whole part us (Some f) bs is_part is)
    (rises_in_part part us (Some f) is_part up) (up_to us f bs is.each) (slice_in_time us f h) raises in
    let more : Part (part ++ slice_of us (Some f) h) us h = part_step part us (Some f) h is_part le in (
      whole_from_part (part ++ slice_of us (Some f) h) us h (with_rows bs (slice_of us (Some f) h)) more both.0,
      rises_in_whole (part ++ slice_of us (Some f) h) us h more both.1,
    )

-- where each row of a listen's step raises a partition, the bindings with them are those up to the step's frontier
pub listen_extends : (us : List Update) (s : ℕ) (g h : Option ℕ) (bs : List (ℕ × List ℕ)) → IsBindingsOf us s g bs
    → NeverFalls (moved us s) g → covers g s ≡ true → is_gt (frontier_cmp g h) ≡ false → AllByRecursion Raises (slice_of us g h)
    → IsBindingsOf us s h (with_rows bs (slice_of us g h)) × NeverFalls (moved us s) h
listen_extends us s g h bs is up c le raises =
    let same = slice-moved us s g h c in
    subst (λ l. IsBindingsOf us s h (with_rows bs l) × NeverFalls (moved us s) h) same
    (step_within (moved us s) g h bs is up le (subst (AllByRecursion Raises) (sym same) raises))
