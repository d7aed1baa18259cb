-- What a join of updates in order leaves.
use Rattle.std.proofs.Common.{◌≡◌, ℕ, pos, ◌+ℤ◌, ◌+◌, ◌≤◌, ◌^◌, Bool, true, false, cond, not, List, [], ◌∷◌, map, suc, ◌<◌, length}
use Rattle.std.proofs.Common.{get_or, refl, sym, ap, subst, ◌∙◌, arith}
use Rattle.std.proofs.lemmas.List.Sums.{sum_by-cons}
use Rattle.std.specs.declared.cmp.Ordering.{Ordering}
use Rattle.std.specs.declared.cmp.Ordering.TheVariants.{Less, Equal, Greater}
use Rattle.std.specs.Int.RustNames.{unsigned_abs}
use Rattle.std.specs.List.{AllByRecursion, filter}
use Rattle.std.specs.List.Retain.{DedupsFrom, DedupsAll}
use Rattle.std.specs.List.Sorted.{IsStrictlySortedBy, IsSortedBy, IsPermutation}
use Rattle.std.proofs.lemmas.List.Sorted.{sorted_far, ranks_by, IsPermutation-map}
use Rattle.std.proofs.lemmas.Fn.{always_returns_same}
use Rattle.std.specs.Cmp.{IsStrictWeakOrder}
use Rattle.std.specs.Fn.{Mut, Called, ComparesAs}
use Rattle.std.specs.Borrow.{Bor}
use Rattle.std.specs.Map.{keys_of}
use Rattle.std.specs.Ordering.{eq_by_cmp, int_eq, is_eq, is_gt, is_lt}
use Rattle.update_core.specs.declared.updates.Update.{Update}
use Rattle.update_core.specs.Totals.{total, IsConsolidation}
use Rattle.update_core.specs.Updates.{moment_cmp, moment_entry, weight_of}
use Rattle.update_core.specs.Weights.{Ascending}
use Rattle.update_core.proofs.Consolidated.{cond_sum}
use Rattle.update_core.proofs.MergeLaws.{abs_sum, turned_back, total-IsPermutation}
use Rattle.update_core.proofs.SumsCounted.{is_kept, consolidation_kept}
use Rattle.update_core.proofs.UpdateLaws.{moments_total, moments_exact}

-- an update's datum and time
abbrev pub moment : Update → List ℕ × ℕ
moment u = (u.datum, u.time)

-- how one call answers, of a later update x and the one kept, k
pub record Absorbs (x k : Update) (b : Bool) (x' k' : Update) : Type 0 where
  pub same : b ≡ eq_by_cmp moment_cmp (moment x) (moment k)
  pub stays : x' ≡ x
  pub sum : b ≡ true → unsigned_abs k.diff + unsigned_abs x.diff ≤ 2 ^ 62 → k' ≡ record k { diff = k.diff +ℤ x.diff }
  pub apart : b ≡ false → k' ≡ k

-- what is left of updates in order
pub record Joined (us vs : List Update) : Type 1 where
  pub rising : IsStrictlySortedBy moment_cmp (keys_of (map moment_entry vs))
  pub same : (m : List ℕ × ℕ) → total moment_cmp (map moment_entry vs) m ≡ total moment_cmp (map moment_entry us) m
  pub keys : (P : List ℕ × ℕ → Type 0) → AllByRecursion P (keys_of (map moment_entry us)) → AllByRecursion P (keys_of (map moment_entry vs))

weight-cons : (u : Update) (us : List Update) → weight_of (u ∷ us) ≡ unsigned_abs u.diff + weight_of us
weight-cons u us = sum_by-cons (λ (v : Update). unsigned_abs v.diff) u us

equal_from : (r : Ordering) → is_eq r ≡ true → r ≡ Equal
equal_from Less h = cc
equal_from Equal h = refl
equal_from Greater h = cc

less_from : (r : Ordering) → is_gt r ≡ false → is_eq r ≡ false → r ≡ Less
less_from Less h n = refl
less_from Equal h n = cc
less_from Greater h n = cc

below_later : (k x : List ℕ × ℕ) (ys : List (List ℕ × ℕ)) → moment_cmp k x ≡ Less → AllByRecursion (λ y. is_gt (moment_cmp x y)
    ≡ false) ys → AllByRecursion (λ y. moment_cmp k y ≡ Less) ys
below_later k x [] lt all = tt
below_later k x (y ∷ ys) lt all = (through (moment_cmp x y) refl all.0, below_later k x ys lt all.1)
  where
    through : (r : Ordering) → moment_cmp x y ≡ r → is_gt r ≡ false → moment_cmp k y ≡ Less
    through Less is h = moments_total.trans k x y lt is
    through Equal is h = ap (moment_cmp k) (sym (moments_exact x y is)) ∙ lt
    through Greater is h = cc

module _ {S : Type 0} (R : S → Update → Update → Bool → S → Update → Update → Type 0)
    (calls : (s : S) (x k : Update) (b : Bool) (t : S) (x' k' : Update) → R s x k b t x' k' → Absorbs x k b x' k') where
  joined_from : (xs : List Update) (s : S) (k : Update) (ys : List Update) → Ascending moment_cmp (keys_of (map moment_entry (k ∷ xs)))
      → weight_of (k ∷ xs) ≤ 2 ^ 62
      → DedupsFrom R s k xs ys → Joined (k ∷ xs) ys
  unfolding IsStrictlySortedBy
  joined_from [] s k ys up room h = record {
    rising = subst (λ vs. IsStrictlySortedBy moment_cmp (keys_of (map moment_entry vs))) (sym h) (tt, tt);
    same = λ m. ap (λ vs. total moment_cmp (map moment_entry vs) m) h;
    keys = λ P all. subst (λ vs. AllByRecursion P (keys_of (map moment_entry vs))) (sym h) all;
  }
  joined_from (x ∷ xs) s k ys up room (true, t, x', k', r, rest) =
      let c = calls s x k true t x' k' r in
      let w1 = weight-cons k (x ∷ xs) in
      let w2 = weight-cons x xs in
      let sum = c.sum refl (omega (arith, room, w1, w2)) in
      let one : moment x ≡ moment k = moments_exact (moment x) (moment k) (equal_from _ (sym c.same)) in
      let j = joined_from xs t (record k { diff = k.diff +ℤ x.diff }) ys (up.0.1, up.1.1)
      (omega (arith, room, w1, w2, weight-cons (record k { diff = k.diff +ℤ x.diff }) xs, abs_sum k.diff x.diff))
      (subst (λ u. DedupsFrom R t u xs ys) sum rest) in
      record {
        rising = j.rising;
        same = λ m. j.same m ∙ cond_sum (eq_by_cmp moment_cmp m (moment k)) k.diff x.diff (total moment_cmp (map moment_entry xs) m)
            ∙ ap (λ q. cond (eq_by_cmp moment_cmp m (moment k)) k.diff (pos 0) +ℤ (cond (eq_by_cmp moment_cmp m q) x.diff
            (pos 0) +ℤ total moment_cmp (map moment_entry xs) m)) (sym one);
        keys = λ P all. j.keys P (all.0, all.1.1);
      }
  joined_from (x ∷ xs) s k ys up room (false, t, x', k', r, left) =
      let c = calls s x k false t x' k' r in
      let j = joined_from xs t x left.0 up.1 (omega (arith, room, weight-cons k (x ∷ xs))) (subst
      (λ u. DedupsFrom R t u xs left.0) c.stays left.1) in
      let split : ys ≡ k ∷ left.0 = left.2 ∙ ap (λ u. u ∷ left.0) (c.apart refl) in
      let lt : moment_cmp (moment k) (moment x) ≡ Less = below (moment x) (moment k) up.0.0 (sym c.same) in
      record {
        rising = subst (λ vs. IsStrictlySortedBy moment_cmp (keys_of (map moment_entry vs))) (sym split) (
          j.keys (λ y. moment_cmp (moment k) y ≡ Less) (
            lt,
            below_later (moment k) (moment x) (keys_of
                (map moment_entry xs)) lt up.1.0,
          ),
          j.rising,
        );
        same = λ m. ap (λ vs. total moment_cmp (map moment_entry vs) m) split ∙ ap (λ z. cond (eq_by_cmp moment_cmp m (moment k)) k.diff
            (pos 0) +ℤ z) (j.same m);
        keys = λ P all. subst (λ vs. AllByRecursion P (keys_of (map moment_entry vs))) (sym split) (all.0, j.keys P all.1);
      }
    where
      turned : (r q : Ordering) → r ≡ Rattle.std.specs.Ordering.ordering_reverse q → is_gt r ≡ false → is_eq q ≡ false → r ≡ Less
      turned Less q e h n = refl
      turned Equal Less e h n = cc
      turned Equal Equal e h n = cc
      turned Equal Greater e h n = cc
      turned Greater q e h n = cc

      below : (x k : List ℕ × ℕ) → is_gt (moment_cmp k x) ≡ false → is_eq (moment_cmp x k) ≡ false → moment_cmp k x ≡ Less
      below x k h n = turned (moment_cmp k x) (moment_cmp x k) (moments_total.antisymm k x) h n

  pub joined_all : (us : List Update) (s : S) (vs : List Update) → Ascending moment_cmp (keys_of (map moment_entry us)) → weight_of us
      ≤ 2 ^ 62 → DedupsAll R s us vs → Joined us vs
  unfolding IsStrictlySortedBy
  joined_all [] s vs up room h = record {
    rising = subst (λ vs. IsStrictlySortedBy moment_cmp (keys_of (map moment_entry vs))) (sym h) tt;
    same = λ m. ap (λ vs. total moment_cmp (map moment_entry vs) m) h;
    keys = λ P all. subst (λ vs. AllByRecursion P (keys_of (map moment_entry vs))) (sym h) tt;
  }
  joined_all (u ∷ us) s vs up room h = joined_from us s u vs up room h

-- the updates that count something
entries_kept : (us : List Update) → map moment_entry (filter (λ u. not (int_eq u.diff (pos 0))) us) ≡ filter is_kept (map moment_entry us)
entries_kept [] = refl
entries_kept (u ∷ us) = elim (int_eq u.diff (pos 0)) as (λ b. map moment_entry (cond (not b) (u ∷ filter (λ u. not (int_eq u.diff
    (pos 0))) us) (filter (λ u. not (int_eq u.diff (pos 0))) us))
    ≡ cond (not b) (moment_entry u ∷ filter is_kept (map moment_entry us)) (filter is_kept (map moment_entry us))) [
      | true ↦ entries_kept us
      | false ↦ (λ i. moment_entry u ∷ entries_kept us i)
    ]

pub zeros_dropped : (us vs : List Update) → IsStrictlySortedBy moment_cmp (keys_of (map moment_entry us)) → vs
    ≡ filter (λ u. not (int_eq u.diff (pos 0))) us
    → IsConsolidation moment_cmp (map moment_entry us) (map moment_entry vs)
zeros_dropped us vs up is = subst (λ es. IsConsolidation moment_cmp (map moment_entry us) es) (sym (ap (map moment_entry) is
    ∙ entries_kept us)) (consolidation_kept moment_cmp (map moment_entry us) up)

-- updates in order by their places
ascending_by_index : (us : List Update) → ((i j : ℕ) (u : Update) → i < j → j < length us → is_gt (moment_cmp (moment (get_or us i u))
    (moment (get_or us j u))) ≡ false) → Ascending moment_cmp (keys_of (map moment_entry us))
ascending_by_index [] h = tt
ascending_by_index (e ∷ es) h = (
  heads e es (λ j x lt. h 0 (suc j) x (omega arith) (omega arith)),
  ascending_by_index es
      (λ i j x lt below. h (suc i) (suc j) x (omega arith) (omega arith)),
)
  where
    heads : (e : Update) (es : List Update) → ((j : ℕ) (x : Update) → j < length es → is_gt (moment_cmp (moment e) (moment
        (get_or es j x))) ≡ false) → AllByRecursion (λ y. is_gt (moment_cmp (moment e) y) ≡ false) (keys_of (map moment_entry es))
    heads e [] h = tt
    heads e (f ∷ fs) h = (h 0 f (omega arith), heads e fs (λ j x lt. h (suc j) x (omega arith)))

ascending_from_sorted : (us : List Update) → IsSortedBy (λ (x y : Update). is_lt (moment_cmp (moment x) (moment y))) us
    → Ascending moment_cmp (keys_of (map moment_entry us))
ascending_from_sorted us up = ascending_by_index us (λ i j x lt below.
    turned_back moments_total (moment (get_or us j x)) (moment (get_or us i x))
    (sorted_far (λ (x y : Update). is_lt (moment_cmp (moment x) (moment y))) (ranks_by moments_total moment) us up i j x
    (omega arith) below))

-- from the clause `sorted` of `sort_by`, where each call compares the data and times
pub ascending_from_sort : {F : Type 0} {g : Mut F (Bor Update × (Bor Update × Unit {0})) Ordering} {f : F} (us : List Update)
    → ((lt : Update → Update → Bool) → IsStrictWeakOrder lt → ComparesAs g lt f → IsSortedBy lt us)
    → ((a : Bor Update × (Bor Update × Unit {0})) (r : Ordering) (f' : F) → Called g f a r f' → (r
    ≡ moment_cmp (moment a.0.now) (moment a.1.0.now)) × (f' ≡ f)) → Ascending moment_cmp (keys_of (map moment_entry us))
ascending_from_sort {g = g} {f = f} us up h = ascending_from_sorted us (up (λ x y. is_lt (moment_cmp (moment x) (moment y)))
    (ranks_by moments_total moment)
    (always_returns_same g (λ a r. is_lt r ≡ is_lt (moment_cmp (moment a.0.now) (moment a.1.0.now))) f (λ a r f' k. (
      ap is_lt
          (h a r f' k).0,
      (h a r f' k).1,
    ))))

-- the consolidation of a list that was put in order and joined
pub consolidation_of_joined : (us sorted joined out : List Update) → IsPermutation us sorted
    → ((m : List ℕ × ℕ) → total moment_cmp (map moment_entry joined) m ≡ total moment_cmp (map moment_entry sorted) m)
    → IsConsolidation moment_cmp (map moment_entry joined) (map moment_entry out) → IsConsolidation moment_cmp (map moment_entry us)
    (map moment_entry out)
consolidation_of_joined us sorted joined out moved same c = record {
  rising = c.rising;
  nonzero = c.nonzero;
  same = λ m. c.same m ∙ same m ∙ total-IsPermutation moment_cmp (map moment_entry us) (map moment_entry sorted)
      (IsPermutation-map moment_entry us sorted moved) m;
}
