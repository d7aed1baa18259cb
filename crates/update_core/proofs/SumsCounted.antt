-- Counting of updates' differences by datum, and the sums that aren't 0.
use Rattle.std.proofs.Common.{◌≡◌, ◌≢◌, ℕ, suc, zero, ℤ, pos, ◌+ℤ◌, ◌+◌, ◌≤◌, ◌<◌, ◌^◌, Bool, cond, not, true, false, List, [], ◌∷◌}
use Rattle.std.proofs.Common.{◌++◌, length, get_or, take, map, refl, sym, ap, subst, ◌∙◌, arith}
use Rattle.std.proofs.Math.IntN.{+ℤ_idl, +ℤ_idr, +ℤ_comm}
use Rattle.std.proofs.Common.{w64, to_z, of_z}
use Rattle.std.proofs.lemmas.Bool.Decides.{nat_tests}
use Rattle.std.proofs.lemmas.Int.{to_z-of_z, fits_signed_from_abs}
use Rattle.std.proofs.lemmas.Cmp.{nat_list_cmp_total}
use Rattle.std.proofs.lemmas.List.Sums.{sum_by-cons}
use Rattle.std.specs.declared.cmp.Ordering.{Ordering}
use Rattle.std.specs.declared.cmp.Ordering.TheVariants.{Less, Equal, Greater}
use Rattle.std.specs.Borrow.{Bor}
use Rattle.std.specs.Cmp.Lexicographic.{slice_cmp}
use Rattle.std.specs.Int.RustNames.{unsigned_abs}
use Rattle.std.specs.List.{AllByRecursion, filter}
use Rattle.std.specs.List.Sorted.{IsStrictlySortedBy}
use Rattle.std.specs.Map.{keys_of}
use Rattle.std.specs.Ordering.{eq_by_cmp, int_eq, match_ordering, nat_cmp}
use Rattle.std.specs.Prelude.{nat_le}
use Rattle.update_core.specs.declared.updates.Update.{Update}
use Rattle.update_core.specs.Totals.{total, counted, IsConsolidation}
use Rattle.update_core.specs.declared.rows.Row.{Row}
use Rattle.update_core.specs.Updates.{seen_datum, datum_entry, row_entry, until, weight_of, IsSum}
use Rattle.update_core.specs.Weights.{weight}
use Rattle.update_core.proofs.Consolidated.{total-append, is_zero, is_not_zero, cond_zero}
use Rattle.update_core.proofs.CountLaws.{weight-counted, total-counted}
use Rattle.update_core.proofs.Seen.{seen, through, rising-seen}

-- one more seen is one more
counted-seen : {J K : Type 0} (R : K → K → Ordering) (f : J → K) (k : J) (d : ℤ) (es : List (J × ℤ))
    → map (seen f) (counted (through R f) k d es) ≡ counted R (f k) d (map (seen f) es)
counted-seen R f k d [] = refl
counted-seen {J} {K} R f k d (e ∷ es) =
    elim (R (f k) (f e.0)) as (λ r. map (seen f) (match_ordering r ((k, d) ∷ e ∷ es) ((e.0, e.1 +ℤ d) ∷ es) (e ∷ counted
    (through R f) k d es))
    ≡ match_ordering r ((f k, d) ∷ map (seen f) (e ∷ es)) ((f e.0, e.1 +ℤ d) ∷ map (seen f) es) (seen f e ∷ counted R (f k) d (map
    (seen f) es))) [
      | Less ↦ refl
      | Equal ↦ refl
      | Greater ↦ (λ i. seen f e ∷ counted-seen R f k d es i)
    ]

-- the sums ms are those of the updates up to t, and weigh no more than the updates
pub record Counting (t : ℕ) (us : List Update) (ms : List (Bor (List ℕ) × ℤ)) : Type 0 where
  pub same : (k : List ℕ) → total (slice_cmp nat_cmp) (map seen_datum ms) k ≡ total (slice_cmp nat_cmp) (map datum_entry (until t us)) k
  pub light : weight ms ≤ weight_of us

pub counting_starts : (t : ℕ) (us : List Update) → Counting t (take 0 us) []
counting_starts t [] = record { same = λ k. refl; light = omega arith }
counting_starts t (u ∷ us) = record { same = λ k. refl; light = omega arith }

until-push : (t : ℕ) (us : List Update) (u : Update) → map datum_entry (until t (us ++ u ∷ []))
    ≡ map datum_entry (until t us) ++ cond (nat_le u.time t) (datum_entry u ∷ []) []
until-push t [] u = elim (nat_le u.time t) as (λ b. map datum_entry (cond b (u ∷ []) []) ≡ cond b (datum_entry u ∷ []) []) [
  | true ↦ refl
  | false ↦ refl
]
until-push t (v ∷ us) u = elim (nat_le v.time t) as (λ b. map datum_entry (cond b (v ∷ until t (us ++ u ∷ [])) (until t
    (us ++ u ∷ []))) ≡ map datum_entry (cond b (v ∷ until t us) (until t us)) ++ cond (nat_le u.time t) (datum_entry u ∷ []) []) [
      | true ↦ (λ i. datum_entry v ∷ until-push t us u i)
      | false ↦ until-push t us u
    ]

weight-push : (us : List Update) (u : Update) → weight_of (us ++ u ∷ []) ≡ weight_of us + unsigned_abs u.diff
weight-push [] u = omega (arith, sum_by-cons (λ (v : Update). unsigned_abs v.diff) u [])
weight-push (v ∷ us) u = omega (
  arith,
  weight-push us u,
  sum_by-cons (λ (v : Update). unsigned_abs v.diff) v us,
  sum_by-cons (λ
      (v : Update). unsigned_abs v.diff) v (us ++ u ∷ []),
)

take_more : {A : Type 0} (xs : List A) (i : ℕ) (d : A) → i < length xs → take (suc i) xs ≡ take i xs ++ get_or xs i d ∷ []
take_more [] i d h = absurd (omega arith)
take_more (x ∷ []) zero d h = refl
take_more (x ∷ y ∷ xs) zero d h = refl
take_more (x ∷ xs) (suc i) d h = λ j. x ∷ take_more xs i d (omega arith) j

take_next : {A : Type 0} (xs : List A) (i : ℕ) (d : A) → i < length xs → take (i + 1) xs ≡ take i xs ++ get_or xs i d ∷ []
take_next xs i d h = ap (λ n. take n xs) (next i) ∙ take_more xs i d h
  where
    next : (i : ℕ) → i + 1 ≡ suc i
    next i = omega arith

module _ (t : ℕ) (us : List Update) (ms : List (Bor (List ℕ) × ℤ)) (u : Update) where
  counted_push : (b : Bor (List ℕ)) → b.now ≡ u.datum → nat_le u.time t ≡ true → Counting t us ms
      → Counting t (us ++ u ∷ []) (counted (λ x y. slice_cmp nat_cmp x.now y.now) b u.diff ms)
  counted_push b is h c = record {
    same = λ k. ap (λ es. total (slice_cmp nat_cmp) es k) (counted-seen (slice_cmp nat_cmp) (λ (x : Bor (List ℕ)). x.now) b u.diff ms)
        ∙ total-counted nat_list_cmp_total b.now u.diff (map seen_datum ms) k
        ∙ (λ i. cond (eq_by_cmp (slice_cmp nat_cmp) k (is i)) u.diff (pos 0) +ℤ c.same k i)
        ∙ +ℤ_comm (cond (eq_by_cmp (slice_cmp nat_cmp) k u.datum) u.diff (pos 0)) (total (slice_cmp nat_cmp) (map datum_entry
        (until t us)) k)
        ∙ ap (λ z. total (slice_cmp nat_cmp) (map datum_entry (until t us)) k +ℤ z) (sym (+ℤ_idr (cond (eq_by_cmp
        (slice_cmp nat_cmp) k u.datum) u.diff (pos 0))))
        ∙ sym (total-append (slice_cmp nat_cmp) (map datum_entry (until t us)) (datum_entry u ∷ []) k)
        ∙ ap (λ b. total (slice_cmp nat_cmp) (map datum_entry (until t us) ++ cond b (datum_entry u ∷ []) []) k) (sym h)
        ∙ ap (λ es. total (slice_cmp nat_cmp) es k) (sym (until-push t us u));
    light = omega (arith, c.light, weight-push us u, weight-counted (λ (x y : Bor (List ℕ)). slice_cmp nat_cmp x.now y.now) b u.diff ms);
  }

  passed_push : nat_le u.time t ≡ false → Counting t us ms → Counting t (us ++ u ∷ []) ms
  passed_push h c = record {
    same = λ k. c.same k
        ∙ sym (+ℤ_idr (total (slice_cmp nat_cmp) (map datum_entry (until t us)) k))
        ∙ sym (total-append (slice_cmp nat_cmp) (map datum_entry (until t us)) [] k)
        ∙ ap (λ b. total (slice_cmp nat_cmp) (map datum_entry (until t us) ++ cond b (datum_entry u ∷ []) []) k) (sym h)
        ∙ ap (λ es. total (slice_cmp nat_cmp) es k) (sym (until-push t us u));
    light = omega (arith, c.light, weight-push us u);
  }

weight-take : (us : List Update) (i : ℕ) (d : Update) → i < length us → weight_of (take i us) + unsigned_abs (get_or us i d).diff
    ≤ weight_of us
weight-take [] i d h = absurd (omega arith)
weight-take (u ∷ us) zero d h = omega (arith, sum_by-cons (λ (v : Update). unsigned_abs v.diff) u us)
weight-take (u ∷ us) (suc i) d h = omega (
  arith,
  weight-take us i d (omega arith),
  sum_by-cons (λ
      (v : Update). unsigned_abs v.diff) u us,
  sum_by-cons (λ (v : Update). unsigned_abs v.diff) u (take i us),
)

-- an update that is counted
pub counting_counts : (t : ℕ) (us : List Update) (i : ℕ) (ms : List (Bor (List ℕ) × ℤ)) (u d : Update) (b : Bor (List ℕ))
    → i < length us → u ≡ get_or us i d → b.now ≡ u.datum
    → weight_of us ≤ 2 ^ 62 → u.time ≤ t → Counting t (take i us) ms → Counting t (take (i + 1) us) (counted
    (λ x y. slice_cmp nat_cmp x.now y.now) b (to_z w64 (of_z w64 u.diff)) ms)
counting_counts t us i ms u d b lt is at room h c =
    let fits = fits_signed_from_abs w64 u.diff (omega (arith, room, weight-take us i d lt, ap (λ (v : Update). unsigned_abs v.diff) is)) in
    subst (λ z. Counting t (take (i + 1) us) (counted (λ (x y : Bor (List ℕ)). slice_cmp nat_cmp x.now y.now) b z ms)) (sym
    (to_z-of_z w64 u.diff fits))
    (subst (λ vs. Counting t vs (counted (λ (x y : Bor (List ℕ)). slice_cmp nat_cmp x.now y.now) b u.diff ms)) (ap
    (λ v. take i us ++ v ∷ []) is ∙ sym (take_next us i d lt))
    (counted_push t (take i us) ms u b at (grind (arith, nat_tests)) c))

-- an update after t
pub counting_passes : (t : ℕ) (us : List Update) (i : ℕ) (ms : List (Bor (List ℕ) × ℤ)) (u d : Update) → i < length us → u ≡ get_or us i d
    → t < u.time → Counting t (take i us) ms → Counting t (take (i + 1) us) ms
counting_passes t us i ms u d lt is h c =
    subst (λ vs. Counting t vs ms) (ap (λ v. take i us ++ v ∷ []) is ∙ sym (take_next us i d lt)) (passed_push t (take i us) ms u (grind
    (arith, nat_tests)) c)

-- what the next difference may add
pub counting_room : (t : ℕ) (us : List Update) (i : ℕ) (ms : List (Bor (List ℕ) × ℤ)) (u d : Update) → i < length us → u
    ≡ get_or us i d → weight_of us ≤ 2 ^ 62
    → Counting t (take i us) ms → weight ms + unsigned_abs u.diff ≤ 2 ^ 62
counting_room t us i ms u d lt is room c = omega (arith, room, c.light, weight-take us i d lt, ap (λ (v : Update). unsigned_abs v.diff) is)

-- whether a sum is kept
abbrev pub is_kept : {K : Type 0} → K × ℤ → Bool
is_kept e = not (int_eq e.1 (pos 0))

module _ {K : Type 0} (R : K → K → Ordering) where
  all_kept : (P : K → Type 0) (es : List (K × ℤ)) → AllByRecursion P (keys_of es) → AllByRecursion P (keys_of (filter is_kept es))
  all_kept P [] all = tt
  all_kept P (e ∷ es) all = elim (int_eq e.1 (pos 0)) as (λ b. AllByRecursion P (keys_of (cond (not b) (e ∷ filter is_kept es)
      (filter is_kept es)))) [
        | true ↦ all_kept P es all.1
        | false ↦ (all.0, all_kept P es all.1)
      ]

  rising_kept : (es : List (K × ℤ)) → IsStrictlySortedBy R (keys_of es) → IsStrictlySortedBy R (keys_of (filter is_kept es))
  unfolding IsStrictlySortedBy
  rising_kept [] up = tt
  rising_kept (e ∷ es) up = elim (int_eq e.1 (pos 0)) as (λ b. IsStrictlySortedBy R (keys_of (cond (not b) (e ∷ filter is_kept es)
      (filter is_kept es)))) [
        | true ↦ rising_kept es up.1
        | false ↦ (all_kept (λ y. R e.0 y ≡ Less) es up.0, rising_kept es up.1)
      ]

  nonzero_kept : (es : List (K × ℤ)) → AllByRecursion (λ e. e.1 ≢ pos 0) (filter is_kept es)
  nonzero_kept [] = tt
  nonzero_kept (e ∷ es) = elim (int_eq e.1 (pos 0)) as (λ b. int_eq e.1 (pos 0) ≡ b → AllByRecursion (λ (e : K
      × ℤ). e.1 ≢ pos 0) (cond (not b) (e ∷ filter is_kept es) (filter is_kept es))) [
        | true ↦ λ h. nonzero_kept es
        | false ↦ λ h. (is_not_zero e.1 h, nonzero_kept es)
      ] refl

  total_kept : (es : List (K × ℤ)) (q : K) → total R (filter is_kept es) q ≡ total R es q
  total_kept [] q = refl
  total_kept (e ∷ es) q = elim (int_eq e.1 (pos 0)) as (λ b. int_eq e.1 (pos 0) ≡ b → total R (cond (not b) (e ∷ filter is_kept es)
      (filter is_kept es)) q ≡ cond (eq_by_cmp R q e.0) e.1 (pos 0) +ℤ total R es q) [
        | true ↦ λ h. total_kept es q ∙ sym (ap (λ z. z +ℤ total R es q) (cond_zero (eq_by_cmp R q e.0) e.1 (is_zero e.1 h)) ∙ +ℤ_idl _)
        | false ↦ λ h. ap (λ z. cond (eq_by_cmp R q e.0) e.1 (pos 0) +ℤ z) (total_kept es q)
      ] refl

  -- sums in the order of their keys need only lose those that are 0
  pub consolidation_kept : (es : List (K × ℤ)) → IsStrictlySortedBy R (keys_of es) → IsConsolidation R es (filter is_kept es)
  consolidation_kept es up = record { rising = rising_kept es up; nonzero = nonzero_kept es; same = total_kept es }

-- one more sum, kept or not
kept_push : (ys : List (Bor (List ℕ) × ℤ)) (e : Bor (List ℕ) × ℤ) → filter is_kept (map seen_datum (ys ++ e ∷ []))
    ≡ filter is_kept (map seen_datum ys) ++ cond (is_kept e) (seen_datum e ∷ []) []
kept_push [] e = refl
kept_push (y ∷ ys) e = elim (int_eq y.1 (pos 0)) as (λ b. cond (not b) (seen_datum y ∷ filter is_kept (map seen_datum (ys ++ e ∷ [])))
    (filter is_kept (map seen_datum (ys ++ e ∷ [])))
    ≡ cond (not b) (seen_datum y ∷ filter is_kept (map seen_datum ys)) (filter is_kept (map seen_datum ys)) ++ cond (is_kept e)
    (seen_datum e ∷ []) []) [
      | true ↦ kept_push ys e
      | false ↦ (λ i. seen_datum y ∷ kept_push ys e i)
    ]

pub kept_more : (out : List (List ℕ × ℤ)) (ys : List (Bor (List ℕ) × ℤ)) (e : Bor (List ℕ) × ℤ) → e.1 ≢ pos 0 → out
    ≡ filter is_kept (map seen_datum ys) → out ++ seen_datum e ∷ [] ≡ filter is_kept (map seen_datum (ys ++ e ∷ []))
kept_more out ys e h is = ap (λ xs. xs ++ seen_datum e ∷ []) is ∙ ap (λ b. filter is_kept (map seen_datum ys) ++ cond (not b)
    (seen_datum e ∷ []) []) (sym (from_apart (int_eq e.1 (pos 0)) (λ t. h (is_zero e.1 t)))) ∙ sym (kept_push ys e)
  where
    from_apart : (b : Bool) → (b ≡ true → ⊥) → b ≡ false
    from_apart true h = absurd (h refl)
    from_apart false h = refl

pub kept_same : (out : List (List ℕ × ℤ)) (ys : List (Bor (List ℕ) × ℤ)) (e : Bor (List ℕ) × ℤ) → e.1 ≡ pos 0 → out
    ≡ filter is_kept (map seen_datum ys) → out ≡ filter is_kept (map seen_datum (ys ++ e ∷ []))
kept_same out ys e h is = is ∙ sym (append_nil (filter is_kept (map seen_datum ys))) ∙ ap (λ z. filter is_kept
    (map seen_datum ys) ++ cond (not (int_eq z (pos 0))) (seen_datum e ∷ []) []) (sym h) ∙ sym (kept_push ys e)
  where
    append_nil : {A : Type 0} (xs : List A) → xs ++ [] ≡ xs
    append_nil [] = refl
    append_nil (x ∷ xs) = λ i. x ∷ append_nil xs i

-- the sums of a map in order, without those that are 0
pub consolidation_of_sums : (ms : List (Bor (List ℕ) × ℤ)) (out : List (List ℕ × ℤ)) → IsStrictlySortedBy (λ (x y : Bor
    (List ℕ)). slice_cmp nat_cmp x.now y.now) (keys_of ms)
    → out ≡ filter is_kept (map seen_datum ms) → IsConsolidation (slice_cmp nat_cmp) (map seen_datum ms) out
consolidation_of_sums ms out up is = subst (λ cs. IsConsolidation (slice_cmp nat_cmp) (map seen_datum ms) cs) (sym is)
    (consolidation_kept (slice_cmp nat_cmp) (map seen_datum ms) (rising-seen (slice_cmp nat_cmp) (λ (b : Bor (List ℕ)). b.now) ms up))

-- a consolidation of the sums is the sum at t
pub sum_from_sums : (us : List Update) (t : ℕ) (ms : List (Bor (List ℕ) × ℤ)) (out : List Row) → ((k : List ℕ)
    → total (slice_cmp nat_cmp) (map seen_datum ms) k ≡ total (slice_cmp nat_cmp) (map datum_entry (until t us)) k)
    → IsConsolidation (slice_cmp nat_cmp) (map seen_datum ms) (map row_entry out) → IsSum us t out
sum_from_sums us t ms out same made = record { rising = made.rising; nonzero = made.nonzero; same = λ k. made.same k ∙ same k }
