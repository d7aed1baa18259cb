-- What one more row of a remap shard does to its bindings.
use Rattle.std.proofs.Common.{◌≡◌, ℕ, zero, suc, ◌+◌, ◌<◌, ◌≤◌, ℤ, pos, negsuc, ◌+ℤ◌, ◌≤ℤ◌, Bool, true, false, cond, not, ◌&&◌, ◌||◌, None}
use Rattle.std.proofs.Common.{List, [], ◌∷◌, ◌++◌, map, replicate, refl, sym, ap, subst, ◌∙◌, arith}
use Rattle.std.proofs.Math.IntN.{+ℤ_idl, +ℤ_idr, +ℤ_assoc}
use Rattle.std.proofs.lemmas.Int.{ints}
use Rattle.std.proofs.lemmas.Bool.Decides.{nat_tests, Decides-int_eq}
use Rattle.std.specs.Cmp.{unsigned_tied}
use Rattle.std.specs.Cmp.Lexicographic.{slice_cmp}
use Rattle.std.specs.List.{AllByRecursion, list_any, range_with_len}
use Rattle.std.specs.Ordering.{nat_cmp, eq_by_cmp, int_eq}
use Rattle.std.specs.Prelude.{nat_le, nat_lt, ◌==◌}
use Rattle.update_core.specs.declared.updates.Update.{Update}
use Rattle.update_core.specs.Totals.{total}
use Rattle.update_core.specs.Updates.{moment_cmp, moment_entry, datum_entry, until}
use Rattle.update_core.proofs.Consolidated.{total-append}
use Rattle.update_core.proofs.UpdateLaws.{entries-append}
use Rattle.remap_core.specs.Offsets.{unset}
use Rattle.remap_core.specs.RemapShards.{partition_sum, change_at, partitions, changes, offset_of, frontier_at, TimesRise, is_bound}
use Rattle.remap_core.specs.RemapShards.{IsBinding, IsBindings, NeverFalls}
use Rattle.remap_core.specs.Extending.{reached, raised, before, with_row, UpToTime}
use Rattle.remap_core.proofs.RemapLaws.{both_tied, sum_start, sum_step, offsets_stay, none_changes, map_same, weaker, all_of}

and_true : (x : Bool) → x && true ≡ x
and_true true = refl
and_true false = refl

and_false : (x : Bool) → x && false ≡ false
and_false true = refl
and_false false = refl

-- a row that raises a partition at a time
abbrev pub row_of : ℕ → ℕ → ℕ → Update
row_of p t n = record { datum = p ∷ []; time = t; diff = pos n }

tied_partition : (q p : ℕ) → eq_by_cmp (slice_cmp nat_cmp) (q ∷ []) (p ∷ []) ≡ (q == p)
tied_partition q p = both_tied (nat_cmp q p) (slice_cmp nat_cmp [] []) ∙ and_true (eq_by_cmp nat_cmp q p) ∙ unsigned_tied q p

tied_moment : (q x p t : ℕ) → eq_by_cmp moment_cmp (q ∷ [], x) (p ∷ [], t) ≡ (q == p) && (x == t)
tied_moment q x p t = both_tied (slice_cmp nat_cmp (q ∷ []) (p ∷ [])) (nat_cmp x t) ∙ (λ i. tied_partition q p i && unsigned_tied x t i)

-- ---- changes and sums with one more row
pub change_new : (us : List Update) (p t n q x : ℕ) → change_at (us ++ row_of p t n ∷ []) q x ≡ change_at us q x +ℤ cond
    ((q == p) && (x == t)) (pos n) (pos 0)
change_new us p t n q x =
    ap (λ es. total moment_cmp es (q ∷ [], x)) (entries-append us (row_of p t n ∷ []))
    ∙ total-append moment_cmp (map moment_entry us) (map moment_entry (row_of p t n ∷ [])) (q ∷ [], x)
    ∙ ap (λ z. change_at us q x +ℤ z) (+ℤ_idr _ ∙ ap (λ b. cond b (pos n) (pos 0)) (tied_moment q x p t))

opened : (c : Bool) (w : Update) (ws : List Update) (d : List ℕ) → total (slice_cmp nat_cmp) (map datum_entry (cond c (w ∷ ws) ws)) d
    ≡ cond c (cond (eq_by_cmp (slice_cmp nat_cmp) d w.datum) w.diff (pos 0)) (pos 0) +ℤ total (slice_cmp nat_cmp) (map datum_entry ws) d
opened true w ws d = refl
opened false w ws d = sym (+ℤ_idl _)

narrowed : (b c : Bool) (z : ℤ) → cond b (cond c z (pos 0)) (pos 0) ≡ cond (b && c) z (pos 0)
narrowed true c z = refl
narrowed false c z = refl

pub sum_new : (us : List Update) (p t n q x : ℕ) → partition_sum (us ++ row_of p t n ∷ []) q x ≡ partition_sum us q x +ℤ cond
    (nat_le t x && (q == p)) (pos n) (pos 0)
sum_new [] p t n q x =
    opened (nat_le t x) (row_of p t n) [] (q ∷ [])
    ∙ +ℤ_idr _ ∙ narrowed (nat_le t x) (eq_by_cmp (slice_cmp nat_cmp) (q ∷ []) (p ∷ [])) (pos n)
    ∙ ap (λ b. cond (nat_le t x && b) (pos n) (pos 0)) (tied_partition q p) ∙ sym (+ℤ_idl _)
sum_new (w ∷ us) p t n q x =
    opened (nat_le w.time x) w (until x (us ++ row_of p t n ∷ [])) (q ∷ [])
    ∙ ap (λ z. cond (nat_le w.time x) (cond (eq_by_cmp (slice_cmp nat_cmp) (q ∷ []) w.datum) w.diff (pos 0)) (pos 0) +ℤ z)
    (sum_new us p t n q x)
    ∙ sym (+ℤ_assoc _ (partition_sum us q x) (cond (nat_le t x && (q == p)) (pos n) (pos 0)))
    ∙ ap (λ z. z +ℤ cond (nat_le t x && (q == p)) (pos n) (pos 0)) (sym (opened (nat_le w.time x) w (until x us) (q ∷ [])))

pub any_same : (f g : ℕ → Bool) (ps : List ℕ) → ((p : ℕ) → f p ≡ g p) → list_any f ps ≡ list_any g ps
any_same f g [] h = refl
any_same f g (p ∷ ps) h = λ i. h p i || any_same f g ps h i

any_there : (f : ℕ → Bool) (a k i j : ℕ) → i < k → j ≡ a + i → f j ≡ true → list_any f (range_with_len a k) ≡ true
any_there f a zero i j h e is = absurd (omega arith)
any_there f a (suc k) zero j h e is = λ m. (ap f (first e) ∙ is) m || list_any f (range_with_len (a + 1) k)
  where
    first : j ≡ a + zero → a ≡ j
    first e = omega arith
any_there f a (suc k) (suc i) j h e is = or_true (f a) (list_any f (range_with_len (a + 1) k))
    (any_there f (a + 1) k i j (omega arith) (omega arith) is)
  where
    or_true : (x y : Bool) → y ≡ true → x || y ≡ true
    or_true true y e = refl
    or_true false y e = e

-- at another time nothing changes
pub changes_other : (us : List Update) (p t n x : ℕ) → (x == t) ≡ false → changes (us ++ row_of p t n ∷ []) x ≡ changes us x
changes_other us p t n x e = any_same (λ q. not (int_eq (change_at (us ++ row_of p t n ∷ []) q x) (pos 0)))
    (λ q. not (int_eq (change_at us q x) (pos 0))) partitions
    (λ q. ap (λ z. not (int_eq z (pos 0))) (change_new us p t n q x ∙ ap (λ b. change_at us q x +ℤ cond b (pos n) (pos 0))
    (ap (λ b. (q == p) && b) e ∙ and_false (q == p)) ∙ +ℤ_idr (change_at us q x)))

itself : (k : ℕ) → (k == k) ≡ true
itself k = grind (arith, nat_tests)

not_zero : (c : ℤ) (n : ℕ) → pos 0 ≤ℤ c → 0 < n → not (int_eq (c +ℤ pos n) (pos 0)) ≡ true
not_zero c n h s = pick (int_eq (c +ℤ pos n) (pos 0)) refl
  where
    wrong : c +ℤ pos n ≡ pos 0 → ⊥
    wrong e = omega (arith, ints)

    pick : (b : Bool) → int_eq (c +ℤ pos n) (pos 0) ≡ b → not b ≡ true
    pick true e = absurd (wrong ((Decides-int_eq (c +ℤ pos n) (pos 0)).0 e))
    pick false e = refl

-- at its own time a sum changes
pub changes_here : (us : List Update) (p t n : ℕ) → p < 256 → 0 < n → NeverFalls us None → changes (us ++ row_of p t n ∷ []) t ≡ true
unfolding partitions
changes_here us p t n h s up = any_there (λ q. not (int_eq (change_at (us ++ row_of p t n ∷ []) q t) (pos 0))) 0 256 p p h (omega arith)
    (ap (λ z. not (int_eq z (pos 0))) (change_new us p t n p t ∙ (λ i. change_at us p t +ℤ cond (itself p i && itself t i) (pos n) (pos 0)))
    ∙ not_zero (change_at us p t) n (up.rises p t refl) s)

-- before it the offsets are as they were
pub frontier_before : (us : List Update) (p t n x : ℕ) → nat_le t x ≡ false → frontier_at (us ++ row_of p t n ∷ []) x ≡ frontier_at us x
frontier_before us p t n x e = map_same (λ q. offset_of (partition_sum (us ++ row_of p t n ∷ []) q x))
    (λ q. offset_of (partition_sum us q x)) partitions
    (all_of (λ q. offset_of (partition_sum (us ++ row_of p t n ∷ []) q x) ≡ offset_of (partition_sum us q x)) partitions
    (λ q. ap offset_of (sum_new us p t n q x ∙ ap (λ b. partition_sum us q x +ℤ cond (b && (q == p)) (pos n) (pos 0)) e
    ∙ +ℤ_idr (partition_sum us q x))))

pub sum_not_negative : (us : List Update) → NeverFalls us None → (q x : ℕ) → pos 0 ≤ℤ partition_sum us q x
sum_not_negative us up q zero = subst (λ z. pos 0 ≤ℤ z) (sym (sum_start us q)) (up.rises q 0 refl)
sum_not_negative us up q (suc x) = subst (λ z. pos 0 ≤ℤ z) (sym (sum_step us q x))
    (both (partition_sum us q x) (change_at us q (suc x)) (sum_not_negative us up q x) (up.rises q (suc x) refl))
  where
    both : (a b : ℤ) → pos 0 ≤ℤ a → pos 0 ≤ℤ b → pos 0 ≤ℤ (a +ℤ b)
    both a b h k = omega (arith, ints)

offset_more : (a : ℤ) (b : Bool) (n : ℕ) → pos 0 ≤ℤ a → offset_of (a +ℤ cond b (pos n) (pos 0)) ≡ offset_of a + cond b n 0
offset_more (pos m) true n h = same (pos m +ℤ pos n) (m + n) (omega (arith, ints))
  where
    same : (z : ℤ) (k : ℕ) → z ≡ pos k → offset_of z ≡ k
    same z k e = ap offset_of e
offset_more (pos m) false n h = ap offset_of (+ℤ_idr (pos m)) ∙ omega arith
offset_more (negsuc m) b n h = absurd (omega (arith, ints))

later_ones : (f : ℕ → ℕ) (n a c k : ℕ) → a < c → map (λ q. f q + cond (q == a) n 0) (range_with_len c k) ≡ map f (range_with_len c k)
later_ones f n a c zero h = refl
later_ones f n a c (suc k) h = λ i. head i ∷ later_ones f n a (c + 1) k (omega arith) i
  where
    differs : (c == a) ≡ false
    differs = grind (arith, nat_tests)

    head : f c + cond (c == a) n 0 ≡ f c
    head = ap (λ b. f c + cond b n 0) differs ∙ omega arith

raised_map : (f : ℕ → ℕ) (n a k i j : ℕ) → i < k → j ≡ a + i → map (λ q. f q + cond (q == j) n 0) (range_with_len a k)
    ≡ raised (map f (range_with_len a k)) i n
raised_map f n a zero i j h e = absurd (omega arith)
raised_map f n a (suc k) zero j h e =
    subst (λ m. map (λ q. f q + cond (q == m) n 0) (range_with_len a (suc k)) ≡ raised (map f (range_with_len a (suc k))) 0 n)
    (first e) at_a
  where
    first : j ≡ a + zero → a ≡ j
    first e = omega arith

    at_a : map (λ q. f q + cond (q == a) n 0) (range_with_len a (suc k)) ≡ raised (map f (range_with_len a (suc k))) 0 n
    at_a = λ i. (f a + cond (itself a i) n 0) ∷ later_ones f n a (a + 1) k (omega arith) i
raised_map f n a (suc k) (suc i) j h e = λ m. head m ∷ raised_map f n (a + 1) k i j (omega arith) (omega arith) m
  where
    differs : (a == j) ≡ false
    differs = grind (arith, nat_tests)

    head : f a + cond (a == j) n 0 ≡ f a
    head = ap (λ b. f a + cond b n 0) differs ∙ omega arith

not_past : (k : ℕ) → nat_le k k ≡ true
not_past k = grind (arith, nat_tests)

-- at its time the partition's offset is raised
pub frontier_here : (us : List Update) (p t n : ℕ) → p < 256 → NeverFalls us None → frontier_at (us ++ row_of p t n ∷ []) t
    ≡ raised (frontier_at us t) p n
unfolding partitions
frontier_here us p t n h up =
    map_same (λ q. offset_of (partition_sum (us ++ row_of p t n ∷ []) q t))
    (λ q. offset_of (partition_sum us q t) + cond (q == p) n 0) partitions
    (all_of (λ q. offset_of (partition_sum (us ++ row_of p t n ∷ []) q t) ≡ offset_of (partition_sum us q t) + cond (q == p) n 0) partitions
    (λ q. ap offset_of (sum_new us p t n q t ∙ ap (λ b. partition_sum us q t +ℤ cond (b && (q == p)) (pos n) (pos 0)) (not_past t))
    ∙ offset_more (partition_sum us q t) (q == p) n (sum_not_negative us up q t)))
    ∙ raised_map (λ q. offset_of (partition_sum us q t)) n 0 256 p p h (omega arith)

-- no sum falls with it
pub never_falls_new : (us : List Update) (p t n : ℕ) → NeverFalls us None → NeverFalls (us ++ row_of p t n ∷ []) None
never_falls_new us p t n up =
    record {
      rises = λ q x c. subst (λ z. pos 0 ≤ℤ z) (sym (change_new us p t n q x))
          (more (change_at us q x) ((q == p) && (x == t)) (up.rises q x c));
    }
  where
    more : (a : ℤ) (b : Bool) → pos 0 ≤ℤ a → pos 0 ≤ℤ (a +ℤ cond b (pos n) (pos 0))
    more a true h = omega (arith, ints)
    more a false h = omega (arith, ints)

-- ---- the last binding tells the sums from its time on
zeros : (f : ℕ → ℕ) (a k : ℕ) → AllByRecursion (λ q. f q ≡ 0) (range_with_len a k) → map f (range_with_len a k) ≡ replicate k 0
zeros f a zero h = refl
zeros f a (suc k) h = λ i. h.0 i ∷ zeros f (a + 1) k h.1 i

start_unset : (us : List Update) → changes us 0 ≡ false → frontier_at us 0 ≡ unset
unfolding partitions unset
start_unset us h = zeros (λ q. offset_of (partition_sum us q 0)) 0 256
    (weaker (λ q. change_at us q 0 ≡ pos 0) (λ q. offset_of (partition_sum us q 0) ≡ 0) (range_with_len 0 256)
    (λ q e. ap offset_of (sum_start us q ∙ e)) (none_changes us 0 (range_with_len 0 256) h))

at_last : (bs : List (ℕ × List ℕ)) (us : List Update) (t : ℕ) → TimesRise bs → AllByRecursion (IsBinding us None) bs → UpToTime t bs
    → is_bound bs t ≡ true → reached bs ≡ frontier_at us t
at_last [] us t up each le h = cc
at_last (b ∷ []) us t up each le h = each.0.offsets ∙ ap (frontier_at us) (is (b.0 == t) refl h)
  where
    is : (x : Bool) → (b.0 == t) ≡ x → x || false ≡ true → b.0 ≡ t
    is true e h = grind (arith, nat_tests)
    is false e h = cc
at_last (b ∷ c ∷ bs) us t up each le h = at_last (c ∷ bs) us t up.1 each.1 le.1 (is (b.0 == t) refl h)
  where
    differs : (b.0 == t) ≡ true → b.0 < c.0 → c.0 ≤ t → ⊥
    differs e lt le = grind (arith, nat_tests)

    is : (x : Bool) → (b.0 == t) ≡ x → x || is_bound (c ∷ bs) t ≡ true → is_bound (c ∷ bs) t ≡ true
    is true e h = absurd (differs e up.0.0 le.1.0)
    is false e h = h

-- a time at which nothing changes isn't bound, so that the bindings are up to the time before
one_less : (bs : List (ℕ × List ℕ)) (us : List Update) (t : ℕ) → AllByRecursion (IsBinding us None) bs → UpToTime (suc t) bs
    → changes us (suc t) ≡ false → UpToTime t bs
one_less [] us t each le h = tt
one_less (b ∷ bs) us t each le h = (lower (nat_le b.0 t) refl, one_less bs us t each.1 le.1 h)
  where
    top : nat_le b.0 t ≡ false → b.0 ≤ suc t → b.0 ≡ suc t
    top e le = grind (arith, nat_tests)

    lower : (x : Bool) → nat_le b.0 t ≡ x → b.0 ≤ t
    lower true e = grind (arith, nat_tests)
    lower false e = absurd (apart (sym (each.0.changes) ∙ ap (changes us) (top e le.0) ∙ h))
      where
        apart : true ≡ false → ⊥
        apart e = cc

none_at_0 : (bs : List (ℕ × List ℕ)) (us : List Update) → AllByRecursion (IsBinding us None) bs → UpToTime 0 bs → changes us 0 ≡ false
    → bs ≡ []
none_at_0 [] us each le h = refl
none_at_0 (b ∷ bs) us each le h = absurd (apart (sym (each.0.changes) ∙ ap (changes us) (top le.0) ∙ h))
  where
    top : b.0 ≤ 0 → b.0 ≡ 0
    top le = omega arith

    apart : true ≡ false → ⊥
    apart e = cc

pub reached_is : (bs : List (ℕ × List ℕ)) (us : List Update) (t : ℕ) → IsBindings us None bs → UpToTime t bs → reached bs ≡ frontier_at us t
reached_is bs us zero is le = elim (changes us 0) as (λ b. changes us 0 ≡ b → reached bs ≡ frontier_at us 0) [
  | true ↦ λ e. at_last bs us 0 is.rising is.each le (is.all 0 refl e)
  | false ↦ λ e. ap reached (none_at_0 bs us is.each le e) ∙ sym (start_unset us e)
] refl
reached_is bs us (suc t) is le = elim (changes us (suc t)) as (λ b. changes us (suc t) ≡ b → reached bs ≡ frontier_at us (suc t)) [
  | true ↦ λ e. at_last bs us (suc t) is.rising is.each le (is.all (suc t) refl e)
  | false ↦ λ e. reached_is bs us t is (one_less bs us t is.each le e) ∙ sym (offsets_stay us t e)
] refl

-- ---- one more row
pub all_kept : (P Q : ℕ × List ℕ → Type 0) (t : ℕ) (bs : List (ℕ × List ℕ)) → ((b : ℕ × List ℕ) → nat_lt b.0 t ≡ true → P b → Q b)
    → AllByRecursion P bs → AllByRecursion Q (before t bs)
all_kept P Q t [] f h = tt
all_kept P Q t (b ∷ bs) f h = pick (nat_lt b.0 t) refl (all_kept P Q t bs f h.1)
  where
    pick : (x : Bool) → nat_lt b.0 t ≡ x → AllByRecursion Q (before t bs) → AllByRecursion Q (cond x (b ∷ before t bs) (before t bs))
    pick true e rest = (f b e h.0, rest)
    pick false e rest = rest

rise_kept : (t : ℕ) (bs : List (ℕ × List ℕ)) → TimesRise bs → TimesRise (before t bs)
rise_kept t [] up = tt
rise_kept t (b ∷ bs) up = pick (nat_lt b.0 t) (rise_kept t bs up.1)
  where
    pick : (x : Bool) → TimesRise (before t bs) → TimesRise (cond x (b ∷ before t bs) (before t bs))
    pick true rest = (all_kept (λ c. b.0 < c.0) (λ c. b.0 < c.0) t bs (λ c e h. h) up.0, rest)
    pick false rest = rest

pub all_push : (P : ℕ × List ℕ → Type 0) (bs : List (ℕ × List ℕ)) (b : ℕ × List ℕ) → AllByRecursion P bs → P b
    → AllByRecursion P (bs ++ b ∷ [])
all_push P [] b h p = (p, tt)
all_push P (c ∷ bs) b h p = (h.0, all_push P bs b h.1 p)

rise_push : (bs : List (ℕ × List ℕ)) (b : ℕ × List ℕ) → TimesRise bs → AllByRecursion (λ c. c.0 < b.0) bs → TimesRise (bs ++ b ∷ [])
rise_push [] b up h = (tt, tt)
rise_push (c ∷ bs) b up h = (all_push (λ d. c.0 < d.0) bs b up.0 h.0, rise_push bs b up.1 h.1)

bound_kept : (t x : ℕ) (bs : List (ℕ × List ℕ)) (b : ℕ × List ℕ) → UpToTime t bs → (x == t) ≡ false → is_bound bs x ≡ true
    → is_bound (before t bs ++ b ∷ []) x ≡ true
bound_kept t x [] b le e h = cc
bound_kept t x (c ∷ bs) b le e h = pick (nat_lt c.0 t) (c.0 == x) refl refl h (bound_kept t x bs b le.1 e)
  where
    or_true : (u v : Bool) → v ≡ true → u || v ≡ true
    or_true true v e = refl
    or_true false v e = e

    last : nat_lt c.0 t ≡ false → c.0 ≤ t → (c.0 == x) ≡ true → (x == t) ≡ false → ⊥
    last f le g e = grind (arith, nat_tests)

    pick : (u v : Bool) → nat_lt c.0 t ≡ u → (c.0 == x) ≡ v → v || is_bound bs x ≡ true
        → (is_bound bs x ≡ true → is_bound (before t bs ++ b ∷ []) x ≡ true) → is_bound (cond u (c ∷ before t bs) (before t bs) ++ b ∷ []) x
        ≡ true
    pick true true f g h rest = ap (λ v. v || is_bound (before t bs ++ b ∷ []) x) g
    pick true false f g h rest = or_true (c.0 == x) (is_bound (before t bs ++ b ∷ []) x) (rest h)
    pick false true f g h rest = absurd (last f le.0 g e)
    pick false false f g h rest = rest h

bound_new : (bs : List (ℕ × List ℕ)) (b : ℕ × List ℕ) (x : ℕ) → (b.0 == x) ≡ true → is_bound (bs ++ b ∷ []) x ≡ true
bound_new [] b x e = ap (λ v. v || false) e
bound_new (c ∷ bs) b x e = or_true (c.0 == x) (is_bound (bs ++ b ∷ []) x) (bound_new bs b x e)
  where
    or_true : (u v : Bool) → v ≡ true → u || v ≡ true
    or_true true v e = refl
    or_true false v e = e

earlier : (x t : ℕ) → nat_lt x t ≡ true → ((x == t) ≡ false) × (nat_le t x ≡ false) × (x < t)
earlier x t e = (grind (arith, nat_tests), grind (arith, nat_tests), grind (arith, nat_tests))

abbrev more : List Update → ℕ → ℕ → ℕ → List Update
more us p t n = us ++ row_of p t n ∷ []

abbrev new : List (ℕ × List ℕ) → ℕ → ℕ → ℕ → ℕ × List ℕ
new bs p t n = (t, raised (reached bs) p n)

-- bindings with a row at a time that none of them is past are the bindings of the updates with that row
pub row_extends : (us : List Update) (bs : List (ℕ × List ℕ)) (p t n : ℕ) → IsBindings us None bs → NeverFalls us None → UpToTime t bs
    → p < 256 → 0 < n
    → IsBindings (us ++ row_of p t n ∷ []) None (with_row bs t p n)
row_extends us bs p t n is up le h s = record {
  rising = rise_push (before t bs) (new bs p t n) (rise_kept t bs is.rising)
      (all_kept (IsBinding us None) (λ c. c.0 < t) t bs (λ c e x. (earlier c.0 t e).2) is.each);
  each = all_push (IsBinding (more us p t n) None) (before t bs) (new bs p t n)
      (all_kept (IsBinding us None) (IsBinding (more us p t n) None) t bs (λ c e x. record {
        covered = refl;
        changes = changes_other us p t n c.0 (earlier c.0 t e).0 ∙ x.changes;
        offsets = x.offsets ∙ sym (frontier_before us p t n c.0 (earlier c.0 t e).1);
      }) is.each)
      (record {
        covered = refl;
        changes = changes_here us p t n h s up;
        offsets = ap (λ f. raised f p n) (reached_is bs us t is le) ∙ sym (frontier_here us p t n h up);
      });
  all = λ x c e. pick x (x == t) refl e;
}
  where
    back : (x : ℕ) → (x == t) ≡ true → (t == x) ≡ true
    back x e = grind (arith, nat_tests)

    pick : (x : ℕ) (b : Bool) → (x == t) ≡ b → changes (more us p t n) x ≡ true → is_bound (before t bs ++ new bs p t n ∷ []) x ≡ true
    pick x true f e = bound_new (before t bs) (new bs p t n) x (back x f)
    pick x false f e = bound_kept t x bs (new bs p t n) le f (is.all x refl (sym (changes_other us p t n x f) ∙ e))
