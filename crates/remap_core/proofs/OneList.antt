-- Updates have one list of bindings.
use Rattle.std.proofs.Common.{◌≡◌, ℕ, ◌<◌, Bool, true, false, ◌||◌, Option, List, [], ◌∷◌, refl, sym, ap, subst, ◌∙◌, arith}
use Rattle.std.proofs.lemmas.Bool.Decides.{nat_tests}
use Rattle.std.specs.List.{AllByRecursion}
use Rattle.std.specs.Prelude.{◌==◌, nat_lt}
use Rattle.update_core.specs.declared.updates.Update.{Update}
use Rattle.remap_core.specs.RemapShards.{frontier_at, TimesRise, is_bound, IsBinding, IsBindings}

wrong : true ≡ false → ⊥
wrong e = cc

itself : (k : ℕ) → (k == k) ≡ true
itself k = grind (arith, nat_tests)

not_later : (t : ℕ) (bs : List (ℕ × List ℕ)) → AllByRecursion (λ c. t < c.0) bs → is_bound bs t ≡ false
not_later t [] h = refl
not_later t (b ∷ bs) h = λ i. differs i || not_later t bs h.1 i
  where
    differs : (b.0 == t) ≡ false
    differs = grind (arith, nat_tests, h.0)

further : (s t : ℕ) (bs : List (ℕ × List ℕ)) → s < t → AllByRecursion (λ c. t < c.0) bs → AllByRecursion (λ c. s < c.0) bs
further s t [] lt h = tt
further s t (b ∷ bs) lt h = (omega (arith, lt, h.0), further s t bs lt h.1)

head_bound : (b : ℕ × List ℕ) (bs : List (ℕ × List ℕ)) → is_bound (b ∷ bs) b.0 ≡ true
head_bound b bs = ap (λ x. x || is_bound bs b.0) (itself b.0)

-- lists of rising times with the same times and the same offsets at each
pub same_bound : (us : List Update) (g : Option ℕ) (bs cs : List (ℕ × List ℕ)) → TimesRise bs → TimesRise cs
    → AllByRecursion (IsBinding us g) bs → AllByRecursion (IsBinding us g) cs → ((t : ℕ) → is_bound bs t ≡ is_bound cs t) → bs ≡ cs
same_bound us g [] [] br cr be ce h = refl
same_bound us g [] (c ∷ cs) br cr be ce h = absurd (wrong (sym (head_bound c cs) ∙ sym (h c.0)))
same_bound us g (b ∷ bs) [] br cr be ce h = absurd (wrong (sym (head_bound b bs) ∙ h b.0))
same_bound us g (b ∷ bs) (c ∷ cs) br cr be ce h = pick (nat_lt b.0 c.0) (nat_lt c.0 b.0) refl refl
    (λ times. same_bound us g bs cs br.1 cr.1 be.1 ce.1 (rest times))
  where
    lower : (x y : ℕ) → nat_lt x y ≡ true → x < y
    lower x y e = grind (arith, nat_tests)

    equal : nat_lt b.0 c.0 ≡ false → nat_lt c.0 b.0 ≡ false → b.0 ≡ c.0
    equal e f = grind (arith, nat_tests)

    rest : b.0 ≡ c.0 → (t : ℕ) → is_bound bs t ≡ is_bound cs t
    rest e t = test (b.0 == t) refl
      where
        at : (b.0 == t) ≡ true → b.0 ≡ t
        at f = grind (arith, nat_tests)

        test : (x : Bool) → (b.0 == t) ≡ x → is_bound bs t ≡ is_bound cs t
        test true f = not_later t bs (subst (λ k. AllByRecursion (λ d. k < d.0) bs) (at f) br.0)
            ∙ sym (not_later t cs (subst (λ k. AllByRecursion (λ d. k < d.0) cs) (sym e ∙ at f) cr.0))
        test false f = ap (λ x. x || is_bound bs t) (sym f) ∙ h t ∙ ap (λ x. x || is_bound cs t) (ap (λ k. k == t) (sym e) ∙ f)

    pick : (x y : Bool) → nat_lt b.0 c.0 ≡ x → nat_lt c.0 b.0 ≡ y → (b.0 ≡ c.0 → bs ≡ cs) → b ∷ bs ≡ c ∷ cs
    pick true y e f next =
        absurd (wrong (sym (head_bound b bs) ∙ h b.0 ∙ not_later b.0 (c ∷ cs) (lower b.0 c.0 e, further b.0 c.0 cs (lower b.0 c.0 e) cr.0)))
    pick false true e f next =
        absurd (wrong (sym (head_bound c cs) ∙ sym (h c.0)
        ∙ not_later c.0 (b ∷ bs) (lower c.0 b.0 f, further c.0 b.0 bs (lower c.0 b.0 f) br.0)))
    pick false false e f next =
        let times = equal e f in
        let offsets : b.1 ≡ c.1 = be.0.offsets ∙ ap (frontier_at us) times ∙ sym ce.0.offsets in
        λ i. (times i, offsets i) ∷ next times i

is_one : (us : List Update) (g : Option ℕ) (bs : List (ℕ × List ℕ)) (t : ℕ) → AllByRecursion (IsBinding us g) bs → is_bound bs t ≡ true
    → IsBinding us g (t, frontier_at us t)
is_one us g [] t h e = cc
is_one us g (b ∷ bs) t h e = pick (b.0 == t) refl e (is_one us g bs t h.1)
  where
    at : (b.0 == t) ≡ true → b.0 ≡ t
    at f = grind (arith, nat_tests)

    pick : (x : Bool) → (b.0 == t) ≡ x → x || is_bound bs t ≡ true → (is_bound bs t ≡ true → IsBinding us g (t, frontier_at us t))
        → IsBinding us g (t, frontier_at us t)
    pick true f e rest = subst (λ k. IsBinding us g (k, frontier_at us k)) (at f)
        (record { covered = h.0.covered; changes = h.0.changes; offsets = refl })
    pick false f e rest = rest e

one_bool : (a b : Bool) → (a ≡ true → b ≡ true) → (b ≡ true → a ≡ true) → a ≡ b
one_bool true b f g = sym (f refl)
one_bool false true f g = g refl
one_bool false false f g = refl

pub one_list : (us : List Update) (g : Option ℕ) (bs cs : List (ℕ × List ℕ)) → IsBindings us g bs → IsBindings us g cs → bs ≡ cs
one_list us g bs cs b c = same_bound us g bs cs b.rising c.rising b.each c.each (λ t. one_bool (is_bound bs t) (is_bound cs t)
    (λ e. let x = is_one us g bs t b.each e in c.all t x.covered x.changes)
    (λ e. let x = is_one us g cs t c.each e in b.all t x.covered x.changes))
