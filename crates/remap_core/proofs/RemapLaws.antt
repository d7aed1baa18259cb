-- Laws of what a remap shard binds.
use Rattle.std.proofs.Common.{◌≡◌, ℕ, zero, suc, ◌≤◌, ℤ, pos, negsuc, ◌+ℤ◌, ◌≤ℤ◌, Bool, true, false, cond, not, ◌&&◌, ◌||◌, Option, Some}
use Rattle.std.proofs.Common.{None, List, [], ◌∷◌, map, min, refl, sym, ap, subst, ◌∙◌, arith}
use Rattle.std.proofs.Math.IntN.{+ℤ_idl, +ℤ_idr}
use Rattle.std.proofs.lemmas.Int.{ints}
use Rattle.std.proofs.lemmas.Bool.Decides.{nat_tests, Decides-int_eq}
use Rattle.std.specs.declared.cmp.Ordering.{Ordering}
use Rattle.std.specs.declared.cmp.Ordering.TheVariants.{Less, Equal, Greater}
use Rattle.std.specs.Cmp.{unsigned_tied}
use Rattle.std.specs.Cmp.Lexicographic.{slice_cmp}
use Rattle.std.specs.List.{AllByRecursion, filter, list_any}
use Rattle.std.specs.Ordering.{nat_cmp, eq_by_cmp, is_eq, int_eq, ordering_then}
use Rattle.std.specs.Prelude.{nat_le, nat_lt, ◌==◌}
use Rattle.update_core.specs.declared.updates.Update.{Update}
use Rattle.update_core.specs.Frontiers.{covers}
use Rattle.update_core.specs.Totals.{total}
use Rattle.update_core.specs.Updates.{moment_cmp, moment_entry, datum_entry, moved}
use Rattle.update_core.proofs.SliceLaws.{total-filter_parts}
use Rattle.update_core.proofs.UpdateLaws.{until-moved}
use Rattle.remap_core.specs.Offsets.{offset, covered}
use Rattle.remap_core.specs.Bound.{bind, least, least_or}
use Rattle.remap_core.specs.RemapShards.{partition_sum, change_at, partitions, changes, offset_of, frontier_at, is_bound, IsBinding}
use Rattle.remap_core.specs.RemapShards.{IsBindings, IsBindingsOf, NeverFalls}

-- ---- sums by their changes
pub both_tied : (r q : Ordering) → is_eq (ordering_then r q) ≡ is_eq r && is_eq q
both_tied Less q = refl
both_tied Equal q = refl
both_tied Greater q = refl

during_one : (b c : Bool) (u : Update) (us : List Update) (d : List ℕ) (z : ℤ) → total (slice_cmp nat_cmp) (map datum_entry us) d ≡ z
    → c ≡ eq_by_cmp (slice_cmp nat_cmp) d u.datum && b
    → total (slice_cmp nat_cmp) (map datum_entry (cond b (u ∷ us) us)) d ≡ cond c u.diff (pos 0) +ℤ z
during_one true c u us d z h is = (λ i. cond (eq_by_cmp (slice_cmp nat_cmp) d u.datum) u.diff (pos 0) +ℤ h i)
    ∙ ap (λ k. cond k u.diff (pos 0) +ℤ z) (sym (is ∙ and_true (eq_by_cmp (slice_cmp nat_cmp) d u.datum)))
  where
    and_true : (x : Bool) → x && true ≡ x
    and_true true = refl
    and_true false = refl
during_one false c u us d z h is = h ∙ sym (ap (λ k. cond k u.diff (pos 0) +ℤ z) (is ∙ and_false (eq_by_cmp (slice_cmp nat_cmp) d u.datum))
    ∙ +ℤ_idl z)
  where
    and_false : (x : Bool) → x && false ≡ false
    and_false true = refl
    and_false false = refl

total-during : (us : List Update) (d : List ℕ) (t : ℕ)
    → total (slice_cmp nat_cmp) (map datum_entry (filter (λ u. eq_by_cmp nat_cmp t u.time) us)) d ≡ total moment_cmp (map moment_entry us)
    (d, t)
total-during [] d t = refl
total-during (u ∷ us) d t = during_one (eq_by_cmp nat_cmp t u.time) (eq_by_cmp moment_cmp (d, t) (u.datum, u.time)) u
    (filter (λ u. eq_by_cmp nat_cmp t u.time) us) d (total moment_cmp (map moment_entry us) (d, t)) (total-during us d t)
    (both_tied (slice_cmp nat_cmp d u.datum) (nat_cmp t u.time))

one_later : (x t : ℕ) → nat_le x (suc t) ≡ nat_le x t || eq_by_cmp nat_cmp (suc t) x
one_later x t = tests (nat_le x t) (suc t == x) refl refl ∙ ap (λ b. nat_le x t || b) (sym (unsigned_tied (suc t) x))
  where
    tests : (b c : Bool) → nat_le x t ≡ b → (suc t == x) ≡ c → nat_le x (suc t) ≡ b || c
    tests true c e f = grind (arith, nat_tests)
    tests false true e f = grind (arith, nat_tests)
    tests false false e f = grind (arith, nat_tests)

not_both : (x t : ℕ) → nat_le x t && eq_by_cmp nat_cmp (suc t) x ≡ false
not_both x t = ap (λ b. nat_le x t && b) (unsigned_tied (suc t) x) ∙ tests (nat_le x t) (suc t == x) refl refl
  where
    tests : (b c : Bool) → nat_le x t ≡ b → (suc t == x) ≡ c → b && c ≡ false
    tests true true e f = absurd (grind (arith, nat_tests))
    tests true false e f = refl
    tests false c e f = refl

-- a sum is the sum before and the change
pub sum_step : (us : List Update) (p t : ℕ) → partition_sum us p (suc t) ≡ partition_sum us p t +ℤ change_at us p (suc t)
sum_step us p t =
    total-filter_parts (slice_cmp nat_cmp) datum_entry (λ u. nat_le u.time t) (λ u. eq_by_cmp nat_cmp (suc t) u.time)
    (λ u. nat_le u.time (suc t)) (λ u. one_later u.time t) (λ u. not_both u.time t) us (p ∷ [])
    ∙ ap (λ z. partition_sum us p t +ℤ z) (total-during us (p ∷ []) (suc t))

at_0 : (us : List Update) → filter (λ (u : Update). nat_le u.time 0) us ≡ filter (λ (u : Update). eq_by_cmp nat_cmp 0 u.time) us
at_0 [] = refl
at_0 (u ∷ us) = λ i. cond (same u.time i) (u ∷ at_0 us i) (at_0 us i)
  where
    same : (x : ℕ) → nat_le x 0 ≡ eq_by_cmp nat_cmp 0 x
    same x = tests (0 == x) refl ∙ sym (unsigned_tied 0 x)
      where
        tests : (c : Bool) → (0 == x) ≡ c → nat_le x 0 ≡ c
        tests true f = grind (arith, nat_tests)
        tests false f = grind (arith, nat_tests)

pub sum_start : (us : List Update) (p : ℕ) → partition_sum us p 0 ≡ change_at us p 0
sum_start us p = ap (λ vs. total (slice_cmp nat_cmp) (map datum_entry vs) (p ∷ [])) (at_0 us) ∙ total-during us (p ∷ []) 0

-- the changes decide the sums
pub sums_from_changes : (us vs : List Update) → ((p t : ℕ) → change_at us p t ≡ change_at vs p t) → (p t : ℕ)
    → partition_sum us p t ≡ partition_sum vs p t
sums_from_changes us vs h p zero = sum_start us p ∙ h p 0 ∙ sym (sum_start vs p)
sums_from_changes us vs h p (suc t) = sum_step us p t ∙ (λ i. sums_from_changes us vs h p t i +ℤ h p (suc t) i) ∙ sym (sum_step vs p t)

-- ---- over the partitions
pub map_same : (f g : ℕ → ℕ) (ps : List ℕ) → AllByRecursion (λ p. f p ≡ g p) ps → map f ps ≡ map g ps
map_same f g [] h = refl
map_same f g (p ∷ ps) h = λ i. h.0 i ∷ map_same f g ps h.1 i

map_rises : (f g : ℕ → ℕ) (ps : List ℕ) → ((p : ℕ) → f p ≤ g p) → (q : ℕ) → offset (map f ps) q ≤ offset (map g ps) q
map_rises f g [] h q = omega arith
map_rises f g (p ∷ ps) h zero = h p
map_rises f g (p ∷ ps) h (suc q) = map_rises f g ps h q

pub all_of : (P : ℕ → Type 0) (ps : List ℕ) → ((p : ℕ) → P p) → AllByRecursion P ps
all_of P [] h = tt
all_of P (p ∷ ps) h = (h p, all_of P ps h)

-- where no sum changes each change is 0
pub none_changes : (us : List Update) (t : ℕ) (ps : List ℕ) → list_any (λ p. not (int_eq (change_at us p t) (pos 0))) ps ≡ false
    → AllByRecursion (λ p. change_at us p t ≡ pos 0) ps
none_changes us t [] h = tt
none_changes us t (p ∷ ps) h =
    let both = halves (int_eq (change_at us p t) (pos 0)) (list_any (λ p. not (int_eq (change_at us p t) (pos 0))) ps) h in
    ((Decides-int_eq (change_at us p t) (pos 0)).0 both.0, none_changes us t ps both.1)
  where
    halves : (b c : Bool) → not b || c ≡ false → (b ≡ true) × (c ≡ false)
    halves true c e = (refl, e)
    halves false c e = absurd (wrong e)
      where
        wrong : true ≡ false → ⊥
        wrong e = cc

pub weaker : (P Q : ℕ → Type 0) (ps : List ℕ) → ((p : ℕ) → P p → Q p) → AllByRecursion P ps → AllByRecursion Q ps
weaker P Q [] f h = tt
weaker P Q (p ∷ ps) f h = (f p h.0, weaker P Q ps f h.1)

-- where no sum changes the offsets stay
pub offsets_stay : (us : List Update) (t : ℕ) → changes us (suc t) ≡ false → frontier_at us (suc t) ≡ frontier_at us t
offsets_stay us t h = map_same (λ p. offset_of (partition_sum us p (suc t))) (λ p. offset_of (partition_sum us p t)) partitions
    (weaker (λ p. change_at us p (suc t) ≡ pos 0) (λ p. offset_of (partition_sum us p (suc t))
    ≡ offset_of (partition_sum us p t)) partitions
    (λ p e. ap offset_of (sum_step us p t ∙ ap (λ z. partition_sum us p t +ℤ z) e ∙ +ℤ_idr (partition_sum us p t)))
    (none_changes us (suc t) partitions h))

zero_map : (f : ℕ → ℕ) (ps : List ℕ) (q : ℕ) → AllByRecursion (λ p. f p ≡ 0) ps → offset (map f ps) q ≡ 0
zero_map f [] q h = refl
zero_map f (p ∷ ps) zero h = h.0
zero_map f (p ∷ ps) (suc q) h = zero_map f ps q h.1

-- where none changes at 0 each offset is 0
pub none_at_start : (us : List Update) → changes us 0 ≡ false → (q : ℕ) → offset (frontier_at us 0) q ≡ 0
none_at_start us h q = zero_map (λ p. offset_of (partition_sum us p 0)) partitions q
    (weaker (λ p. change_at us p 0 ≡ pos 0) (λ p. offset_of (partition_sum us p 0) ≡ 0) partitions
    (λ p e. ap offset_of (sum_start us p ∙ e)) (none_changes us 0 partitions h))

offset_rises : (a c : ℤ) → pos 0 ≤ℤ c → offset_of a ≤ offset_of (a +ℤ c)
offset_rises a c h = rises a (a +ℤ c) (omega (arith, ints))
  where
    rises : (a b : ℤ) → a ≤ℤ b → offset_of a ≤ offset_of b
    rises (pos m) (pos n) h = omega (arith, ints)
    rises (pos m) (negsuc n) h = absurd (omega (arith, ints))
    rises (negsuc m) b h = omega arith

covers_before : (g : Option ℕ) (s t : ℕ) → s ≤ t → covers g t ≡ true → covers g s ≡ true
covers_before None s t le h = refl
covers_before (Some g) s t le h = grind (arith, nat_tests)

-- where no sum falls no offset does
pub offsets_rise : (us : List Update) (g : Option ℕ) → NeverFalls us g → (a t q : ℕ) → a ≤ t → covers g t ≡ true
    → offset (frontier_at us a) q ≤ offset (frontier_at us t) q
offsets_rise us g n a zero q le c = subst (λ k. offset (frontier_at us a) q ≤ offset (frontier_at us k) q) (zero_is a le) (omega arith)
  where
    zero_is : (a : ℕ) → a ≤ 0 → a ≡ 0
    zero_is a le = omega arith
offsets_rise us g n a (suc t) q le c = step (nat_le a t) refl (λ s. offsets_rise us g n a t q s (covers_before g t (suc t) (omega arith) c))
  where
    last : a ≤ suc t → nat_le a t ≡ false → a ≡ suc t
    last le e = grind (arith, nat_tests)

    within : nat_le a t ≡ true → a ≤ t
    within e = grind (arith, nat_tests)

    once : offset (frontier_at us t) q ≤ offset (frontier_at us (suc t)) q
    once = map_rises (λ p. offset_of (partition_sum us p t)) (λ p. offset_of (partition_sum us p (suc t))) partitions
        (λ p. subst (λ z. offset_of (partition_sum us p t) ≤ offset_of z) (sym (sum_step us p t))
        (offset_rises (partition_sum us p t) (change_at us p (suc t)) (n.rises p (suc t) c))) q

    step : (b : Bool) → nat_le a t ≡ b → (a ≤ t → offset (frontier_at us a) q ≤ offset (frontier_at us t) q)
        → offset (frontier_at us a) q ≤ offset (frontier_at us (suc t)) q
    step true e h = omega (arith, h (within e), once)
    step false e h = subst (λ k. offset (frontier_at us a) q ≤ offset (frontier_at us k) q) (last le e) (omega arith)

-- ---- what bindings know
-- some binding up to t covers the offset
abbrev pub knows : List (ℕ × List ℕ) → ℕ → ℕ → ℕ → Bool
knows bs t p o = list_any (λ b. nat_le b.0 t && covered b.1 p o) bs

-- there is a time, and it is at most t
abbrev pub is_by : ℕ → Option ℕ → Bool
is_by t None = false
is_by t (Some u) = nat_le u t

pub bound_by : (bs : List (ℕ × List ℕ)) (t p o : ℕ) → is_by t (bind bs p o) ≡ knows bs t p o
unfolding bind
bound_by [] t p o = refl
bound_by (b ∷ bs) t p o = one (covered b.1 p o) b bs (filter (λ b. covered b.1 p o) bs) (bound_by bs t p o)
  where
    least_by : (t a : ℕ) (l : Option ℕ) → is_by t (least_or a l) ≡ nat_le a t || is_by t l
    least_by t a None = or_none (nat_le a t)
      where
        or_none : (b : Bool) → b ≡ b || false
        or_none true = refl
        or_none false = refl
    least_by t a (Some u) = tests (nat_le a t) (nat_le u t) refl refl
      where
        tests : (b c : Bool) → nat_le a t ≡ b → nat_le u t ≡ c → nat_le (min a u) t ≡ b || c
        tests true c e f = grind (arith, nat_tests)
        tests false true e f = grind (arith, nat_tests)
        tests false false e f = grind (arith, nat_tests)

    one : (c : Bool) (b : ℕ × List ℕ) (bs cs : List (ℕ × List ℕ)) → is_by t (least (map (λ b. b.0) cs)) ≡ knows bs t p o
        → is_by t (least (map (λ b. b.0) (cond c (b ∷ cs) cs))) ≡ (nat_le b.0 t && c) || knows bs t p o
    one true b bs cs h = least_by t b.0 (least (map (λ b. b.0) cs)) ∙ (λ i. and_true (nat_le b.0 t) i || h i)
      where
        and_true : (x : Bool) → x ≡ x && true
        and_true true = refl
        and_true false = refl
    one false b bs cs h = h ∙ ap (λ x. x || knows bs t p o) (and_false (nat_le b.0 t))
      where
        and_false : (x : Bool) → false ≡ x && false
        and_false true = refl
        and_false false = refl

-- what is covered by a binding is covered by the sums from its time on
knows_sums : (us : List Update) (g : Option ℕ) (bs : List (ℕ × List ℕ)) (t p o : ℕ) → NeverFalls us g → AllByRecursion (IsBinding us g) bs
    → covers g t ≡ true → knows bs t p o ≡ true → covered (frontier_at us t) p o ≡ true
knows_sums us g [] t p o n all c h = cc
knows_sums us g (b ∷ bs) t p o n all c h = pick (nat_le b.0 t) (covered b.1 p o) refl refl h (knows_sums us g bs t p o n all.1 c)
  where
    up : (f e : List ℕ) → offset f p ≤ offset e p → covered f p o ≡ true → covered e p o ≡ true
    up f e le is = further (offset f p) (offset e p) le is
      where
        further : (a b : ℕ) → a ≤ b → nat_lt o a ≡ true → nat_lt o b ≡ true
        further a b le is = grind (arith, nat_tests)

    within : nat_le b.0 t ≡ true → b.0 ≤ t
    within e = grind (arith, nat_tests)

    pick : (x y : Bool) → nat_le b.0 t ≡ x → covered b.1 p o ≡ y → (x && y) || knows bs t p o ≡ true
        → (knows bs t p o ≡ true → covered (frontier_at us t) p o ≡ true) → covered (frontier_at us t) p o ≡ true
    pick true true e f h rest = up (frontier_at us b.0) (frontier_at us t) (offsets_rise us g n b.0 t p (within e) c)
        (ap (λ l. covered l p o) (sym all.0.offsets) ∙ f)
    pick true false e f h rest = rest h
    pick false y e f h rest = rest h

knows_here : (us : List Update) (g : Option ℕ) (bs : List (ℕ × List ℕ)) (t p o : ℕ) → AllByRecursion (IsBinding us g) bs
    → is_bound bs t ≡ true → covered (frontier_at us t) p o ≡ true → knows bs t p o ≡ true
knows_here us g [] t p o all h c = cc
knows_here us g (b ∷ bs) t p o all h c = pick (b.0 == t) refl h (λ r. knows_here us g bs t p o all.1 r c)
  where
    at : (b.0 == t) ≡ true → b.0 ≡ t
    at e = grind (arith, nat_tests)

    by_itself : (k : ℕ) → nat_le k k ≡ true
    by_itself k = grind (arith, nat_tests)

    or_true : (x y : Bool) → y ≡ true → x || y ≡ true
    or_true true y e = refl
    or_true false y e = e

    this : (x y z : Bool) → x ≡ true → y ≡ true → (x && y) || z ≡ true
    this true true z e f = refl
    this true false z e f = cc
    this false y z e f = cc

    pick : (x : Bool) → (b.0 == t) ≡ x → x || is_bound bs t ≡ true → (is_bound bs t ≡ true → knows bs t p o ≡ true)
        → (nat_le b.0 t && covered b.1 p o) || knows bs t p o ≡ true
    pick true e h rest = this (nat_le b.0 t) (covered b.1 p o) (knows bs t p o) (ap (λ k. nat_le k t) (at e) ∙ by_itself t)
        (ap (λ l. covered l p o) (all.0.offsets ∙ ap (frontier_at us) (at e)) ∙ c)
    pick false e h rest = or_true (nat_le b.0 t && covered b.1 p o) (knows bs t p o) (rest h)

knows_later : (bs : List (ℕ × List ℕ)) (t p o : ℕ) → knows bs t p o ≡ true → knows bs (suc t) p o ≡ true
knows_later [] t p o h = h
knows_later (b ∷ bs) t p o h = pick (nat_le b.0 t) (covered b.1 p o) refl refl h (knows_later bs t p o)
  where
    later : nat_le b.0 t ≡ true → nat_le b.0 (suc t) ≡ true
    later e = grind (arith, nat_tests)

    or_true : (x y : Bool) → y ≡ true → x || y ≡ true
    or_true true y e = refl
    or_true false y e = e

    pick : (x y : Bool) → nat_le b.0 t ≡ x → covered b.1 p o ≡ y → (x && y) || knows bs t p o ≡ true
        → (knows bs t p o ≡ true → knows bs (suc t) p o ≡ true) → (nat_le b.0 (suc t) && covered b.1 p o) || knows bs (suc t) p o ≡ true
    pick true true e f h rest = λ i. (later e i && f i) || knows bs (suc t) p o
    pick true false e f h rest = or_true (nat_le b.0 (suc t) && covered b.1 p o) (knows bs (suc t) p o) (rest h)
    pick false y e f h rest = or_true (nat_le b.0 (suc t) && covered b.1 p o) (knows bs (suc t) p o) (rest h)

not_past_0 : (f : List ℕ) (p o : ℕ) → offset f p ≡ 0 → covered f p o ≡ true → ⊥
not_past_0 f p o e h = none (offset f p) e h
  where
    none : (a : ℕ) → a ≡ 0 → nat_lt o a ≡ true → ⊥
    none a e h = grind (arith, nat_tests)

-- what the sums cover is covered by a binding up to then
sums_known : (us : List Update) (g : Option ℕ) (bs : List (ℕ × List ℕ)) (t p o : ℕ) → IsBindings us g bs → covers g t ≡ true
    → covered (frontier_at us t) p o ≡ true → knows bs t p o ≡ true
sums_known us g bs zero p o is c h = elim (changes us 0) as (λ b. changes us 0 ≡ b → knows bs 0 p o ≡ true) [
  | true ↦ λ e. knows_here us g bs 0 p o is.each (is.all 0 c e) h
  | false ↦ λ e. absurd (not_past_0 (frontier_at us 0) p o (none_at_start us e p) h)
] refl
sums_known us g bs (suc t) p o is c h = elim (changes us (suc t)) as (λ b. changes us (suc t) ≡ b → knows bs (suc t) p o ≡ true) [
  | true ↦ λ e. knows_here us g bs (suc t) p o is.each (is.all (suc t) c e) h
  | false ↦ λ e. knows_later bs t p o (sums_known us g bs t p o is (covers_before g t (suc t) (omega arith) c)
      (ap (λ l. covered l p o) (sym (offsets_stay us t e)) ∙ h))
] refl

one_bool : (a b : Bool) → (a ≡ true → b ≡ true) → (b ≡ true → a ≡ true) → a ≡ b
one_bool true b f g = sym (f refl)
one_bool false true f g = g refl
one_bool false false f g = refl

-- at each time that g covers the bindings cover just what the sums do
pub known : (us : List Update) (g : Option ℕ) (bs : List (ℕ × List ℕ)) (t p o : ℕ) → IsBindings us g bs → NeverFalls us g
    → covers g t ≡ true → knows bs t p o ≡ covered (frontier_at us t) p o
known us g bs t p o is n c = one_bool (knows bs t p o) (covered (frontier_at us t) p o) (knows_sums us g bs t p o n is.each c)
    (sums_known us g bs t p o is c)

-- a move to s leaves the offsets from s on
pub frontier-moved : (us : List Update) (s t : ℕ) → s ≤ t → frontier_at (moved us s) t ≡ frontier_at us t
frontier-moved us s t le = map_same (λ p. offset_of (partition_sum (moved us s) p t)) (λ p. offset_of (partition_sum us p t)) partitions
    (all_of (λ p. offset_of (partition_sum (moved us s) p t) ≡ offset_of (partition_sum us p t)) partitions
    (λ p. ap (λ es. offset_of (total (slice_cmp nat_cmp) es (p ∷ []))) (until-moved us s t le)))

-- whatever the sinces: which rows have a time up to t
pub bound_alike : (us : List Update) (s r : ℕ) (g h : Option ℕ) (bs cs : List (ℕ × List ℕ)) (t p o : ℕ) → IsBindingsOf us s g bs
    → IsBindingsOf us r h cs → NeverFalls (moved us s) g → NeverFalls (moved us r) h
    → s ≤ t → r ≤ t → covers g t ≡ true → covers h t ≡ true → is_by t (bind bs p o) ≡ is_by t (bind cs p o)
bound_alike us s r g h bs cs t p o b c m n st rt gt ht =
    bound_by bs t p o ∙ known (moved us s) g bs t p o b m gt
    ∙ ap (λ l. covered l p o) (frontier-moved us s t st ∙ sym (frontier-moved us r t rt))
    ∙ sym (known (moved us r) h cs t p o c n ht) ∙ sym (bound_by cs t p o)
