-- One partition's offset raised, at the last binding or after it.
use Rattle.std.proofs.Common.{◌≡◌, ◌≢◌, ℕ, zero, suc, ◌+◌, ◌-◌, ◌<◌, ◌≤◌, Bool, true, false, cond, Some, List, [], ◌∷◌, ◌++◌, length, set}
use Rattle.std.proofs.Common.{refl, sym, ap, subst, ◌∙◌, arith}
use Rattle.std.proofs.lemmas.Bool.Decides.{nat_tests}
use Rattle.std.proofs.lemmas.List.{get_or-set_same, get_or-set_other}
use Rattle.std.specs.List.{AllByRecursion}
use Rattle.std.specs.Prelude.{nat_lt, ◌==◌}
use Rattle.remap_core.specs.Offsets.{offset, NoneFalls}
use Rattle.remap_core.specs.Bound.{IsLater, Rising, last_of}
use Rattle.remap_core.specs.Extending.{reached, raised, before, last_time, ends_at, UpToTime}
use Rattle.remap_core.proofs.BoundLaws.{rising_push}
use Rattle.remap_core.proofs.RowLaws.{all_kept}

inside : (a b : ℕ × List ℕ) → Some a ≡ Some b → a ≡ b
inside a b e = cc

pub reached_last : (bs : List (ℕ × List ℕ)) (l : ℕ × List ℕ) → last_of bs ≡ Some l → l.1 ≡ reached bs
reached_last [] l e = cc
reached_last (b ∷ []) l e = ap (λ (k : ℕ × List ℕ). k.1) (sym (inside b l e))
reached_last (b ∷ c ∷ bs) l e = reached_last (c ∷ bs) l e

pub ends_last : (bs : List (ℕ × List ℕ)) (l : ℕ × List ℕ) (t : ℕ) → last_of bs ≡ Some l → (l.0 == t) ≡ ends_at bs t
ends_last [] l t e = cc
ends_last (b ∷ []) l t e = ap (λ (k : ℕ × List ℕ). k.0 == t) (sym (inside b l e))
ends_last (b ∷ c ∷ bs) l t e = ends_last (c ∷ bs) l t e

earlier : (b : ℕ × List ℕ) (c : ℕ × List ℕ) (t : ℕ) → IsLater b c → c.0 ≤ t → nat_lt b.0 t ≡ true
earlier b c t h le = less b.0 c.0 h.time le
  where
    less : (x y : ℕ) → x < y → y ≤ t → nat_lt x t ≡ true
    less x y h le = grind (arith, nat_tests)

-- where the last binding isn't at the time, all are before it
pub all_earlier : (bs : List (ℕ × List ℕ)) (t : ℕ) → Rising bs → UpToTime t bs → ends_at bs t ≡ false → before t bs ≡ bs
all_earlier [] t up le e = refl
all_earlier (b ∷ []) t up le e = ap (λ x. cond x (b ∷ []) []) (less b.0 le.0 e)
  where
    less : (x : ℕ) → x ≤ t → (x == t) ≡ false → nat_lt x t ≡ true
    less x le e = grind (arith, nat_tests)
all_earlier (b ∷ c ∷ bs) t up le e = λ i. cond (earlier b c t up.0.0 le.1.0 i) (b ∷ all_earlier (c ∷ bs) t up.1 le.1 e i)
    (all_earlier (c ∷ bs) t up.1 le.1 e i)

-- where it is, it alone isn't before it
last_replaced : (bs : List (ℕ × List ℕ)) (t i : ℕ) (x : ℕ × List ℕ) → Rising bs → UpToTime t bs → ends_at bs t ≡ true → length bs ≡ suc i
    → set bs i x ≡ before t bs ++ x ∷ []
last_replaced [] t i x up le e n = cc
last_replaced (b ∷ []) t zero x up le e n = ap (λ y. cond y (b ∷ []) [] ++ x ∷ []) (sym (same b.0 e))
  where
    same : (y : ℕ) → (y == t) ≡ true → nat_lt y t ≡ false
    same y e = grind (arith, nat_tests)
last_replaced (b ∷ []) t (suc i) x up le e n = absurd (omega arith)
last_replaced (b ∷ c ∷ bs) t zero x up le e n = absurd (omega arith)
last_replaced (b ∷ c ∷ bs) t (suc i) x up le e n =
    (λ j. b ∷ last_replaced (c ∷ bs) t i x up.1 le.1 e (omega arith) j)
    ∙ ap (λ y. cond y (b ∷ before t (c ∷ bs)) (before t (c ∷ bs)) ++ x ∷ []) (sym (earlier b c t up.0.0 le.1.0))

pub replaced : (bs : List (ℕ × List ℕ)) (t : ℕ) (x : ℕ × List ℕ) → Rising bs → UpToTime t bs → ends_at bs t ≡ true
    → set bs (length bs - 1) x ≡ before t bs ++ x ∷ []
replaced bs t x up le e = last_replaced bs t (length bs - 1) x up le e (some bs e)
  where
    some : (cs : List (ℕ × List ℕ)) → ends_at cs t ≡ true → length cs ≡ suc (length cs - 1)
    some [] e = cc
    some (c ∷ cs) e = omega arith

pub some_ends : (bs : List (ℕ × List ℕ)) (t : ℕ) → ends_at bs t ≡ true → 0 < length bs
some_ends [] t e = cc
some_ends (c ∷ cs) t e = omega arith

-- ---- bindings still rise
falls_chain : (f g h : List ℕ) → NoneFalls f g → NoneFalls g h → NoneFalls f h
falls_chain f g h x y = λ p. omega (arith, x p, y p)

to_reached : (bs : List (ℕ × List ℕ)) → Rising bs → AllByRecursion (λ b. NoneFalls b.1 (reached bs)) bs
to_reached [] up = tt
to_reached (b ∷ []) up = (λ p. omega arith, tt)
to_reached (b ∷ c ∷ bs) up =
    let rest = to_reached (c ∷ bs) up.1 in
    (falls_chain b.1 c.1 (reached (c ∷ bs)) up.0.0.offsets rest.0, rest)

rising_before : (t : ℕ) (bs : List (ℕ × List ℕ)) → Rising bs → Rising (before t bs)
rising_before t [] up = tt
rising_before t (b ∷ bs) up = pick (nat_lt b.0 t) (rising_before t bs up.1)
  where
    pick : (x : Bool) → Rising (before t bs) → Rising (cond x (b ∷ before t bs) (before t bs))
    pick true rest = (all_kept (IsLater b) (IsLater b) t bs (λ c e h. h) up.0, rest)
    pick false rest = rest

pub rising_put : (bs : List (ℕ × List ℕ)) (t : ℕ) (f : List ℕ) → Rising bs → NoneFalls (reached bs) f → Rising (before t bs ++ (t, f) ∷ [])
rising_put bs t f up h = rising_push (before t bs) (t, f) (rising_before t bs up)
    (all_kept (λ b. NoneFalls b.1 (reached bs)) (λ b. IsLater b (t, f)) t bs
    (λ b e x. record { time = less b.0 e; offsets = falls_chain b.1 (reached bs) f x h }) (to_reached bs up))
  where
    less : (x : ℕ) → nat_lt x t ≡ true → x < t
    less x e = grind (arith, nat_tests)

-- a raise lets no offset fall
pub raise_rises : (f : List ℕ) (p n : ℕ) → p < length f → NoneFalls f (raised f p n)
raise_rises f p n h q = pick (q == p) refl
  where
    at : (q == p) ≡ true → q ≡ p
    at e = grind (arith, nat_tests)

    other : (q == p) ≡ false → q ≢ p
    other e = λ k. apart (sym (ap (λ x. x == p) k ∙ itself p) ∙ e)
      where
        itself : (x : ℕ) → (x == x) ≡ true
        itself x = grind (arith, nat_tests)

        apart : true ≡ false → ⊥
        apart e = cc

    pick : (b : Bool) → (q == p) ≡ b → offset f q ≤ offset (raised f p n) q
    pick true e = subst (λ k. offset f k ≤ offset (raised f p n) k) (sym (at e)) (omega (arith, get_or-set_same f p (offset f p + n) 0 h))
    pick false e = omega (arith, get_or-set_other f p q (offset f p + n) 0 (other e))

pub replaced_at : (bs : List (ℕ × List ℕ)) (t n : ℕ) (x : ℕ × List ℕ) → Rising bs → UpToTime t bs → ends_at bs t ≡ true → n ≡ length bs
    → set bs (n - 1) x ≡ before t bs ++ x ∷ []
replaced_at bs t n x up le e is = ap (λ k. set bs (k - 1) x) is ∙ replaced bs t x up le e

-- ---- the last time
pub time_last : (bs : List (ℕ × List ℕ)) (l : ℕ × List ℕ) → last_of bs ≡ Some l → l.0 ≡ last_time bs
time_last [] l e = cc
time_last (b ∷ []) l e = ap (λ (k : ℕ × List ℕ). k.0) (sym (inside b l e))
time_last (b ∷ c ∷ bs) l e = time_last (c ∷ bs) l e

pub up_to_last : (bs : List (ℕ × List ℕ)) → Rising bs → UpToTime (last_time bs) bs
up_to_last [] up = tt
up_to_last (b ∷ []) up = (omega arith, tt)
up_to_last (b ∷ c ∷ bs) up = let rest = up_to_last (c ∷ bs) up.1 in (le b.0 c.0 (last_time (c ∷ bs)) up.0.0.time rest.0, rest)
  where
    le : (x y z : ℕ) → x < y → y ≤ z → x ≤ z
    le x y z h k = omega arith
