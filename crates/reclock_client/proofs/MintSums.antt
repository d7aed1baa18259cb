-- The rows of a mint raise each partition's sum to the greater of the sum before and the offset seen.
use Rattle.std.proofs.Common.{◌≡◌, ℕ, zero, suc, ◌+◌, ◌<◌, ◌≤◌, max, ℤ, pos, negsuc, ◌+ℤ◌, ◌≤ℤ◌, Bool, true, false, cond, ◌&&◌}
use Rattle.std.proofs.Common.{Option, Some, None, List, [], ◌∷◌, ◌++◌, map, get_or, refl, sym, ap, subst, ◌∙◌, arith}
use Rattle.std.proofs.Math.IntN.{+ℤ_idl, +ℤ_assoc}
use Rattle.std.proofs.lemmas.Bool.Decides.{nat_tests}
use Rattle.std.proofs.lemmas.Int.{ints}
use Rattle.std.specs.Cmp.Lexicographic.{slice_cmp}
use Rattle.std.specs.List.{AllByRecursion, range_with_len}
use Rattle.std.specs.Ordering.{eq_by_cmp, nat_cmp}
use Rattle.std.specs.Prelude.{nat_le}
use Rattle.update_core.specs.declared.updates.Update.{Update}
use Rattle.update_core.specs.Frontiers.{covers}
use Rattle.update_core.specs.Totals.{total}
use Rattle.update_core.specs.Updates.{between, datum_entry, moved, until}
use Rattle.update_core.proofs.UpdateLaws.{until-moved}
use Rattle.remap_core.specs.Offsets.{offset}
use Rattle.remap_core.specs.Extending.{UpToTime, reached}
use Rattle.remap_core.specs.RemapShards.{IsBinding, IsBindings, NeverFalls, change_at, frontier_at, offset_of, partition_sum, partitions}
use Rattle.remap_core.proofs.RemapLaws.{frontier-moved, sum_start, sum_step}
use Rattle.remap_core.proofs.RowLaws.{reached_is, sum_not_negative}
use Rattle.remap_core.proofs.StepLaws.{Part, part_from_whole, part_of}
use Rattle.reclock_client.specs.declared.courses.Course.{Course}
use Rattle.reclock_client.specs.Known.{IsKnown, MintRaisesSums, known}
use Rattle.reclock_client.specs.Minting.{rises}
use Rattle.reclock_client.proofs.KnownStays.{rises_in_part}
use Rattle.reclock_client.proofs.MintFits.{rises_at}
use Rattle.reclock_client.proofs.MintLaws.{mint_raises}

-- ---- sums of lists

sum_append : (us vs : List Update) (p t : ℕ) → partition_sum (us ++ vs) p t ≡ partition_sum us p t +ℤ partition_sum vs p t
sum_append [] vs p t = sym (+ℤ_idl (partition_sum vs p t))
sum_append (w ∷ us) vs p t = by (nat_le w.time t) (until t us) (until t (us ++ vs)) (sum_append us vs p t)
  where
    by : (b : Bool) (xs ys : List Update) → total (slice_cmp nat_cmp) (map datum_entry ys) (p ∷ [])
        ≡ total (slice_cmp nat_cmp) (map datum_entry xs) (p ∷ []) +ℤ partition_sum vs p t →
        total (slice_cmp nat_cmp) (map datum_entry (cond b (w ∷ ys) ys)) (p ∷ [])
        ≡ total (slice_cmp nat_cmp) (map datum_entry (cond b (w ∷ xs) xs)) (p ∷ []) +ℤ partition_sum vs p t
    by true xs ys h = ap (λ (z : ℤ). cond (eq_by_cmp (slice_cmp nat_cmp) (p ∷ []) w.datum) w.diff (pos 0) +ℤ z) h
        ∙ sym (+ℤ_assoc (cond (eq_by_cmp (slice_cmp nat_cmp) (p ∷ []) w.datum) w.diff (pos 0))
        (total (slice_cmp nat_cmp) (map datum_entry xs) (p ∷ [])) (partition_sum vs p t))
    by false xs ys h = h

-- of rows at one time the sum is the change
until_none : (t : ℕ) (us : List Update) → AllByRecursion (λ u. u.time ≡ suc t) us → until t us ≡ []
until_none t [] all = refl
until_none t (u ∷ us) all = ap (λ (b : Bool). cond b (u ∷ until t us) (until t us)) (late u.time all.0) ∙ until_none t us all.1
  where
    late : (x : ℕ) → x ≡ suc t → nat_le x t ≡ false
    late x e = grind (arith, nat_tests)

sum_at : (us : List Update) (p t : ℕ) → AllByRecursion (λ u. u.time ≡ t) us → partition_sum us p t ≡ change_at us p t
sum_at us p zero all = sum_start us p
sum_at us p (suc t) all = sum_step us p t
    ∙ ap (λ (xs : List Update). total (slice_cmp nat_cmp) (map datum_entry xs) (p ∷ []) +ℤ change_at us p (suc t)) (until_none t us all)
    ∙ +ℤ_idl (change_at us p (suc t))

mapped_at : (f : ℕ → ℕ) (a k i j : ℕ) → i < k → j ≡ a + i → get_or (map f (range_with_len a k)) i 0 ≡ f j
mapped_at f a zero i j h e = absurd (omega arith)
mapped_at f a (suc k) zero j h e = ap f (first e)
  where
    first : j ≡ a + 0 → a ≡ j
    first e = omega arith
mapped_at f a (suc k) (suc i) j h e = mapped_at f (a + 1) k i j (omega arith) (omega arith)

offset_at : (us : List Update) (p t : ℕ) → p < 256 → offset (frontier_at us t) p ≡ offset_of (partition_sum us p t)
unfolding partitions
offset_at us p t h = mapped_at (λ (q : ℕ). offset_of (partition_sum us q t)) 0 256 p p h (omega arith)

-- ---- what is known, where all is before an upper

between_all : (g : Option ℕ) (us : List Update) → AllByRecursion (λ u. covers g u.time ≡ true) us → between (Some 0) g us ≡ us
between_all g [] all = refl
between_all g (u ∷ us) all =
    ap (λ (b : Bool). cond b (u ∷ between (Some 0) g us) (between (Some 0) g us)) (λ i. from_0 u.time i && all.0 i)
    ∙ ap (λ (xs : List Update). u ∷ xs) (between_all g us all.1)
  where
    from_0 : (x : ℕ) → nat_le 0 x ≡ true
    from_0 x = grind (arith, nat_tests)

covers_both : (g : Option ℕ) (t s : ℕ) → covers g t ≡ true → covers g s ≡ true → covers g (max t s) ≡ true
covers_both None t s h k = refl
covers_both (Some g) t s h k = grind (arith, nat_tests)

moved_all : (g : Option ℕ) (s : ℕ) (us : List Update) → covers g s ≡ true → AllByRecursion (λ u. covers g u.time ≡ true) us →
    AllByRecursion (λ u. covers g u.time ≡ true) (moved us s)
moved_all g s [] h all = tt
moved_all g s (u ∷ us) h all = (covers_both g u.time s all.0 h, moved_all g s us h all.1)

up_to : (us : List Update) (u t : ℕ) (bs : List (ℕ × List ℕ)) → u ≤ t → AllByRecursion (IsBinding us (Some u)) bs → UpToTime t bs
up_to us u t [] h each = tt
up_to us u t (b ∷ bs) h each = (less b.0 each.0.covered, up_to us u t bs h each.1)
  where
    less : (x : ℕ) → covers (Some u) x ≡ true → x ≤ t
    less x e = grind (arith, nat_tests)

module _ (us : List Update) (c : Course) (u t : ℕ) (k : IsKnown us c) (synced : c.synced ≡ Some u) (le : u ≤ t)
    (all : AllByRecursion (λ (x : Update). covers (Some u) x.time ≡ true) us) where
  past : covers (Some u) c.since ≡ true
  past = subst (λ (g : Option ℕ). covers g c.since ≡ true) synced k.past

  whole : Part (moved us c.since) (moved us c.since) (Some u)
  whole = subst (λ (p : List Update). Part p (moved us c.since) (Some u))
      (between_all (Some u) (moved us c.since) (moved_all (Some u) c.since us past all)) (part_of (moved us c.since) (Some u))

  bindings : IsBindings (moved us c.since) (Some u) (known c)
  bindings = subst (λ (g : Option ℕ). IsBindings (moved us c.since) g (known c)) synced k.bindings

  never : NeverFalls (moved us c.since) None
  never = rises_in_part (moved us c.since) (moved us c.since) (Some u) whole
      (subst (λ (g : Option ℕ). NeverFalls (moved us c.since) g) synced k.rises)

  from_since : c.since ≤ t
  from_since = less c.since past
    where
      less : (x : ℕ) → covers (Some u) x ≡ true → x ≤ t
      less x e = grind (arith, nat_tests)

  reached_known : reached (known c) ≡ frontier_at (moved us c.since) t
  reached_known = reached_is (known c) (moved us c.since) t
      (part_from_whole (moved us c.since) (moved us c.since) (Some u) (known c) whole bindings)
      (up_to (moved us c.since) u t (known c) le bindings.each)

not_negative : (z : ℤ) → pos 0 ≤ℤ z → z ≡ pos (offset_of z)
not_negative (pos n) h = refl
not_negative (negsuc n) h = absurd (omega (arith, ints))

pub mint_raises_sums : MintRaisesSums
mint_raises_sums us c u t seen p h k synced le all =
    ap offset_of (sum_append us (rises t had seen) p t)
    ∙ ap (λ (z : ℤ). offset_of (partition_sum us p t +ℤ z)) (sum_at (rises t had seen) p t (rises_at t had seen))
    ∙ ap (λ (z : ℤ). offset_of (z +ℤ change_at (rises t had seen) p t)) before
    ∙ mint_raises t had seen p h
    ∙ ap (λ (n : ℕ). max n (offset seen p)) had_is
  where
    had : List ℕ
    had = reached (known c)

    since : c.since ≤ t
    since = from_since us c u t k synced le all

    same : partition_sum (moved us c.since) p t ≡ partition_sum us p t
    same = ap (λ (es : List (List ℕ × ℤ)). total (slice_cmp nat_cmp) es (p ∷ [])) (until-moved us c.since t since)

    had_is : offset had p ≡ offset_of (partition_sum us p t)
    had_is = ap (λ (f : List ℕ). offset f p)
        (reached_known us c u t k synced le all ∙ frontier-moved us c.since t since) ∙ offset_at us p t h

    before : partition_sum us p t ≡ pos (offset had p)
    before = not_negative (partition_sum us p t) (subst (λ (z : ℤ). pos 0 ≤ℤ z) same
        (sum_not_negative (moved us c.since) (never us c u t k synced le all) p t)) ∙ ap pos (sym had_is)
