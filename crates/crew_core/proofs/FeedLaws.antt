-- The appends of a feed from a frontier on.
use Rattle.std.proofs.Common.{◌≡◌, ℕ, ◌<◌, ◌≤◌, true, false, Option, Some, None, List, [], ◌∷◌, ◌++◌, ◌⊎◌, inl, inr, refl, sym, ap}
use Rattle.std.proofs.Common.{subst, ◌∙◌, arith}
use Rattle.std.specs.Prelude.{◌==◌, nat_lt}
use Rattle.std.proofs.lemmas.Bool.Decides.{nat_tests}
use Rattle.update_core.specs.declared.appends.FeedAppend.{FeedAppend}
use Rattle.update_core.specs.Frontiers.{covers, is_at}
use Rattle.state_core.specs.Lists.{Among}
use Rattle.state_core.proofs.ListLemmas.{bool_cases}
use Rattle.appends_core.specs.Feeds.{FollowOn, end_from, from_upper}

some_is : (a b : ℕ) → Some a ≡ Some b → a ≡ b
some_is a b e = cc

itself : (a : ℕ) → (a == a) ≡ true
itself a = grind (arith, nat_tests)

same : (a b : ℕ) → (a == b) ≡ true → a ≡ b
same a b h = grind (arith, nat_tests)

apart : (a b : ℕ) → b < a → (a == b) ≡ false
apart a b h = grind (arith, nat_tests)

below : (a b : ℕ) → nat_lt a b ≡ true → a < b
below a b h = grind (arith, nat_tests)

-- those that follow on begin there or later
pub begins_past : (b : ℕ) (a : FeedAppend) (xs : List FeedAppend) → FollowOn (Some b) xs → Among (λ x. x ≡ a) xs → b ≤ a.lower
begins_past b a [] f h = absurd h
begins_past b a (x ∷ xs) f (inl h) = let e : b ≡ x.lower = some_is b x.lower f.0 in
    let g : x.lower ≡ a.lower = ap (λ (y : FeedAppend). y.lower) h in omega arith
begins_past b a (x ∷ xs) f (inr h) = later (λ v g. begins_past v a xs g h) x.upper refl f.1 f.2
  where
    e : b ≡ x.lower
    e = some_is b x.lower f.0

    none_on : (ys : List FeedAppend) → FollowOn None ys → Among (λ y. y ≡ a) ys → ⊥
    none_on [] g k = k
    none_on (y ∷ ys) g k = let bad = g.0 in cc

    later : ((v : ℕ) → FollowOn (Some v) xs → v ≤ a.lower) → (u : Option ℕ) → x.upper ≡ u → covers u x.lower ≡ true → FollowOn u xs →
        b ≤ a.lower
    later older None is c g = absurd (none_on xs g h)
    later older (Some v) is c g = let p = older v g in let q : x.lower < v = below x.lower v c in let r = e in omega arith

-- what begins at the lower of one of them begins with that one
pub found_at : (u : Option ℕ) (a : FeedAppend) (xs : List FeedAppend) → FollowOn u xs → Among (λ x. x ≡ a) xs →
    (rest : List FeedAppend) × (from_upper (Some a.lower) xs ≡ a ∷ rest)
found_at u a [] f h = absurd h
found_at u a (x ∷ xs) f h = elim (bool_cases (a.lower == x.lower)) [
  | inl t ↦ (xs, rw t (first h t))
  | inr t ↦ (let k = found_at x.upper a xs f.2 (other h t) in (k.0, rw t k.1))
]
  where
    late : (v : Option ℕ) → covers v x.lower ≡ true → FollowOn v xs → Among (λ y. y ≡ a) xs → x.lower < a.lower
    late None c g k = absurd (none_on xs g k)
      where
        none_on : (ys : List FeedAppend) → FollowOn None ys → Among (λ y. y ≡ a) ys → ⊥
        none_on [] g k = k
        none_on (y ∷ ys) g k = let bad = g.0 in cc
    late (Some v) c g k = let p = begins_past v a xs g k in let q : x.lower < v = below x.lower v c in omega arith

    first : (x ≡ a) ⊎ Among (λ y. y ≡ a) xs → (a.lower == x.lower) ≡ true → x ∷ xs ≡ a ∷ xs
    first (inl e) t = ap (λ (y : FeedAppend). y ∷ xs) e
    first (inr k) t = absurd (let p = late x.upper f.1 f.2 k in let q = same a.lower x.lower t in omega arith)

    other : (x ≡ a) ⊎ Among (λ y. y ≡ a) xs → (a.lower == x.lower) ≡ false → Among (λ y. y ≡ a) xs
    other (inl e) t = absurd (let q : (a.lower == a.lower) ≡ false = subst (λ (y : FeedAppend). (a.lower == y.lower) ≡ false) e t in
        let r = itself a.lower in cc)
    other (inr k) t = k

among_from : (u : Option ℕ) (d : FeedAppend) (more xs : List FeedAppend) → from_upper u xs ≡ d ∷ more → Among (λ x. x ≡ d) xs
among_from u d more [] e = absurd (let bad : [] ≡ d ∷ more = e in cc)
among_from u d more (x ∷ xs) e = elim (bool_cases (is_at u x.lower)) [
  | inl t ↦ inl (let k : x ∷ xs ≡ d ∷ more = rw t at e in cc)
  | inr t ↦ inr (among_from u d more xs (rw t at e))
]

-- from where the first of them ends, there are the others
pub next_from : (w u : Option ℕ) (d : FeedAppend) (more xs : List FeedAppend) → FollowOn w xs → from_upper u xs ≡ d ∷ more →
    from_upper d.upper xs ≡ more
next_from w u d more [] f e = absurd (let bad : [] ≡ d ∷ more = e in cc)
next_from w u d more (x ∷ xs) f e = elim (bool_cases (is_at u x.lower)) [
  | inl t ↦
      let k : x ∷ xs ≡ d ∷ more = rw t at e in
      let x_is : x ≡ d = (cc) in
      let xs_is : xs ≡ more = (cc) in
      subst (λ (y : FeedAppend). from_upper y.upper (x ∷ xs) ≡ more) x_is (here x.upper f.1 f.2 ∙ xs_is)
  | inr t ↦
      let k : from_upper u xs ≡ d ∷ more = rw t at e in
      let among = among_from u d more xs k in
      past x.upper f.1 f.2 among d.upper (covered xs x.upper f.2 among) ∙ next_from x.upper u d more xs f.2 k
]
  where
    covered : (ys : List FeedAppend) (v : Option ℕ) → FollowOn v ys → Among (λ y. y ≡ d) ys → covers d.upper d.lower ≡ true
    covered [] v g k = absurd k
    covered (y ∷ ys) v g (inl h) = subst (λ (z : FeedAppend). covers z.upper z.lower ≡ true) h g.1
    covered (y ∷ ys) v g (inr h) = covered ys y.upper g.2 h

    -- the first ends where the others begin
    here : (v : Option ℕ) → covers v x.lower ≡ true → FollowOn v xs → from_upper v (x ∷ xs) ≡ xs
    here None c g = none_all (x ∷ xs) ∙ sym (none_left xs g)
      where
        none_all : (ys : List FeedAppend) → from_upper None ys ≡ []
        none_all [] = refl
        none_all (y ∷ ys) = none_all ys

        none_left : (ys : List FeedAppend) → FollowOn None ys → ys ≡ []
        none_left [] g = refl
        none_left (y ∷ ys) g = absurd (let bad = g.0 in cc)
    here (Some v) c g = rw (apart v x.lower (below x.lower v c)) (at_front xs g)
      where
        at_front : (ys : List FeedAppend) → FollowOn (Some v) ys → from_upper (Some v) ys ≡ ys
        at_front [] g = refl
        at_front (y ∷ ys) g = let e : v ≡ y.lower = some_is v y.lower g.0 in rw (sym e, itself v) refl

    past : (v : Option ℕ) → covers v x.lower ≡ true → FollowOn v xs → Among (λ y. y ≡ d) xs → (q : Option ℕ) → covers q d.lower ≡ true →
        from_upper q (x ∷ xs) ≡ from_upper q xs
    past v c g k None h = refl
    past None c g k (Some q) h = absurd (none_on xs g k)
      where
        none_on : (ys : List FeedAppend) → FollowOn None ys → Among (λ y. y ≡ d) ys → ⊥
        none_on [] g k = k
        none_on (y ∷ ys) g k = let bad = g.0 in cc
    past (Some v) c g k (Some q) h =
        let p = begins_past v d xs g k in
        let r : x.lower < v = below x.lower v c in
        let s : d.lower < q = below d.lower q h in
        rw (apart q x.lower (omega arith)) refl

pub rest_from : (w u : Option ℕ) (done rest xs : List FeedAppend) → FollowOn w xs → from_upper u xs ≡ done ++ rest →
    from_upper (end_from u done) xs ≡ rest
rest_from w u [] rest xs f e = e
rest_from w u (d ∷ done) rest xs f e = rest_from w d.upper done rest xs f (next_from w u d (done ++ rest) xs f e)
