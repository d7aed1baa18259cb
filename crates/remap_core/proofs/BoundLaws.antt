-- Laws of bindings that rise.
use Rattle.std.proofs.Common.{◌≡◌, ℕ, zero, suc, ◌<◌, ◌≤◌, ◌-◌, Bool, true, false, cond, Option, Some, None, List, [], ◌∷◌, ◌++◌, map}
use Rattle.std.proofs.Common.{length, get_or, drop, min, refl, sym, ap, subst, ◌∙◌, arith}
use Rattle.std.specs.List.{AllByRecursion, filter}
use Rattle.remap_core.specs.Offsets.{covered}
use Rattle.remap_core.specs.Bound.{IsLater, Rising, AllBefore, least, least_or, bind, last_of, head_time}
use Rattle.remap_core.proofs.OffsetLaws.{covered_later}

-- the time of the first binding that covers an offset
abbrev pub first : ℕ → ℕ → List (ℕ × List ℕ) → Option ℕ
first p o [] = None
first p o (b ∷ bs) = cond (covered b.1 p o) (Some b.0) (first p o bs)

-- of later times the least is no less
least_stays : (t : ℕ) (ts : List ℕ) → AllByRecursion (λ u. t < u) ts → least_or t (least ts) ≡ Some t
least_stays t [] h = refl
least_stays t (u ∷ us) h = joined t u (least us) (least_stays t us h.1) h.0
  where
    joined : (t u : ℕ) (l : Option ℕ) → least_or t l ≡ Some t → t < u → least_or t (least_or u l) ≡ Some t
    joined t u None e h = ap Some (omega arith)
    joined t u (Some v) e h = ap Some (lower t u v (inside (min t v) t e) h)
      where
        inside : (a b : ℕ) → Some a ≡ Some b → a ≡ b
        inside a b e = cc

        lower : (t u v : ℕ) → min t v ≡ t → t < u → min t (min u v) ≡ t
        lower t u v e h = omega arith

later_times : (a : ℕ × List ℕ) (bs : List (ℕ × List ℕ)) (p o : ℕ) → AllByRecursion (IsLater a) bs
    → AllByRecursion (λ u. a.0 < u) (map (λ b. b.0) (filter (λ b. covered b.1 p o) bs))
later_times a [] p o h = tt
later_times a (b ∷ bs) p o h = chosen (covered b.1 p o) (later_times a bs p o h.1)
  where
    chosen : (c : Bool) → AllByRecursion (λ u. a.0 < u) (map (λ (b : ℕ × List ℕ). b.0) (filter (λ (b : ℕ × List ℕ). covered b.1 p o) bs))
        → AllByRecursion (λ u. a.0 < u)
        (map (λ (b : ℕ × List ℕ). b.0) (cond c (b ∷ filter (λ (b : ℕ × List ℕ). covered b.1 p o) bs)
        (filter (λ (b : ℕ × List ℕ). covered b.1 p o) bs)))
    chosen true rest = (h.0.time, rest)
    chosen false rest = rest

-- where bindings rise, the least is the first
pub bind_is_first : (bs : List (ℕ × List ℕ)) (p o : ℕ) → Rising bs → bind bs p o ≡ first p o bs
unfolding bind
bind_is_first [] p o up = refl
bind_is_first (b ∷ bs) p o up = chosen (bind_is_first bs p o up.1) (covered b.1 p o)
  where
    chosen : least (map (λ (b : ℕ × List ℕ). b.0) (filter (λ (b : ℕ × List ℕ). covered b.1 p o) bs)) ≡ first p o bs → (c : Bool)
        → least (map (λ (b : ℕ × List ℕ). b.0) (cond c (b ∷ filter (λ (b : ℕ × List ℕ). covered b.1 p o) bs)
        (filter (λ (b : ℕ × List ℕ). covered b.1 p o) bs))) ≡ cond c (Some b.0) (first p o bs)
    chosen rest true = least_stays b.0 (map (λ b. b.0) (filter (λ b. covered b.1 p o) bs)) (later_times b bs p o up.0)
    chosen rest false = rest

none_covers : (bs : List (ℕ × List ℕ)) (a : ℕ × List ℕ) (m : ℕ) (d : ℕ × List ℕ) (p o : ℕ) → AllByRecursion (IsLater a) bs → m < length bs
    → covered (get_or bs m d).1 p o ≡ false → covered a.1 p o ≡ false
none_covers [] a m d p o later h e = absurd (omega arith)
none_covers (b ∷ bs) a zero d p o later h e = covered_later a.1 b.1 p o later.0.offsets e
none_covers (b ∷ bs) a (suc m) d p o later h e = none_covers bs a m d p o later.1 (omega arith) e

-- up to a binding that doesn't cover the offset none does
pub skips : (bs : List (ℕ × List ℕ)) (m : ℕ) (d : ℕ × List ℕ) (p o : ℕ) → Rising bs → m < length bs → covered (get_or bs m d).1 p o ≡ false
    → first p o bs ≡ first p o (drop (suc m) bs)
skips [] m d p o up h e = absurd (omega arith)
skips (b ∷ bs) zero d p o up h e = ap (λ c. cond c (Some b.0) (first p o bs)) e
skips (b ∷ bs) (suc m) d p o up h e = ap (λ c. cond c (Some b.0) (first p o bs)) (none_covers bs b m d p o up.0 (omega arith) e)
    ∙ skips bs m d p o up.1 (omega arith) e

-- from a binding that covers the offset on, it is the first
pub lands : (bs : List (ℕ × List ℕ)) (m : ℕ) (d : ℕ × List ℕ) (p o : ℕ) → m < length bs → covered (get_or bs m d).1 p o ≡ true
    → first p o (drop m bs) ≡ head_time (drop m bs)
lands [] m d p o h e = absurd (omega arith)
lands (b ∷ bs) zero d p o h e = ap (λ c. cond c (Some b.0) (first p o bs)) e
lands (b ∷ bs) (suc m) d p o h e = lands bs m d p o (omega arith) e

pub lands_at_end : (bs : List (ℕ × List ℕ)) (m : ℕ) (p o : ℕ) → length bs ≤ m → first p o (drop m bs) ≡ head_time (drop m bs)
lands_at_end [] zero p o h = refl
lands_at_end [] (suc m) p o h = refl
lands_at_end (b ∷ bs) zero p o h = absurd (omega arith)
lands_at_end (b ∷ bs) (suc m) p o h = lands_at_end bs m p o (omega arith)

-- ---- one more binding
later_chain : (a b c : ℕ × List ℕ) → IsLater a b → IsLater b c → IsLater a c
later_chain a b c x y = record { time = omega (arith, x.time, y.time); offsets = λ p. omega (arith, x.offsets p, y.offsets p) }

-- what is later than the last is later than each
pub all_before : (bs : List (ℕ × List ℕ)) (n l : ℕ × List ℕ) → Rising bs → last_of bs ≡ Some l → IsLater l n → AllBefore n bs
all_before [] n l up e h = tt
all_before (b ∷ []) n l up e h = (subst (λ k. IsLater k n) (sym (inside b l e)) h, tt)
  where
    inside : (a b : ℕ × List ℕ) → Some a ≡ Some b → a ≡ b
    inside a b e = cc
all_before (b ∷ c ∷ bs) n l up e h =
    let rest : AllBefore n (c ∷ bs) = all_before (c ∷ bs) n l up.1 e h in
    (later_chain b c n up.0.0 rest.0, rest)

-- the last stands at the end
last_at : (bs : List (ℕ × List ℕ)) (i : ℕ) (d : ℕ × List ℕ) → length bs ≡ suc i → last_of bs ≡ Some (get_or bs i d)
last_at [] i d h = absurd (omega arith)
last_at (b ∷ []) zero d h = refl
last_at (b ∷ []) (suc i) d h = absurd (omega arith)
last_at (b ∷ c ∷ cs) zero d h = absurd (omega arith)
last_at (b ∷ c ∷ cs) (suc i) d h = last_at (c ∷ cs) i d (omega arith)

pub last_is : (bs : List (ℕ × List ℕ)) (d : ℕ × List ℕ) → 0 < length bs → last_of bs ≡ Some (get_or bs (length bs - 1) d)
last_is bs d h = last_at bs (length bs - 1) d (omega arith)

pub rising_push : (bs : List (ℕ × List ℕ)) (n : ℕ × List ℕ) → Rising bs → AllBefore n bs → Rising (bs ++ n ∷ [])
rising_push [] n up h = (tt, tt)
rising_push (b ∷ bs) n up h = (pushed bs up.0, rising_push bs n up.1 h.1)
  where
    pushed : (cs : List (ℕ × List ℕ)) → AllByRecursion (IsLater b) cs → AllByRecursion (IsLater b) (cs ++ n ∷ [])
    pushed [] all = (h.0, tt)
    pushed (c ∷ cs) all = (all.0, pushed cs all.1)
