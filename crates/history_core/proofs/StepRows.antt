-- Where no two of the updates that were got are of one datum and time from a frontier on, each row of a step is one of them.
use Rattle.std.proofs.Common.{◌≡◌, ◌&&◌, ℕ, ℤ, pos, ◌+ℤ◌, ◌<◌, ◌≤◌, Bool, true, false, cond, List, [], ◌∷◌, ◌++◌, ◌⊎◌, map, filter, max, inl, inr, refl, arith, subst, sym, ap, ◌∙◌, Option, Some}
use Rattle.std.proofs.lemmas.Bool.Decides.{nat_tests}
use Rattle.std.proofs.lemmas.Cmp.{tied_itself}
use Rattle.std.proofs.lemmas.List.Elements.{filter-append}
use Rattle.std.proofs.lemmas.Map.Lookups.{CmpEqualImpliesEq}
use Rattle.std.specs.declared.cmp.Ordering.{Ordering}
use Rattle.std.specs.declared.cmp.Ordering.TheVariants.{Less, Equal, Greater}
use Rattle.std.specs.List.{AllByRecursion}
use Rattle.std.specs.List.Sorted.{IsStrictlySortedBy}
use Rattle.std.specs.Map.{keys_of as first_of_each}
use Rattle.std.specs.Ordering.{int_eq, match_ordering}
use Rattle.std.specs.Prelude.{nat_le}
use Rattle.update_core.specs.declared.updates.Update.{Update}
use Rattle.update_core.specs.Frontiers.{covers}
use Rattle.update_core.specs.Totals.{added, consolidated}
use Rattle.update_core.specs.Updates.{moment_cmp, moment_entry, time_cmp, time_entry, update_at, update_in_time, between, moved_by, cons, slice_of}
use Rattle.update_core.proofs.UpdateLaws.{moments_total, times_exact, cons_is}
use Rattle.spine_core.specs.declared.batches.Batch.{Batch}
use Rattle.spine_core.specs.declared.descs.Desc.{Desc}
use Rattle.spine_core.specs.Contents.{span_of, batch_of, held}
use Rattle.spine_core.specs.Spines.{Follows}
use Rattle.state_core.specs.Lists.{Among, Distinct}
use Rattle.state_core.proofs.Batches.{covers_open, covers_earlier}
use Rattle.state_core.proofs.ListLemmas.{bool_cases, each_map, each_append, among_split}

-- ---- lists

each_not : {A : Type 0} (P : A → Type 0) (xs : List A) → ¬ Among P xs → AllByRecursion (λ x. ¬ P x) xs
each_not P [] n = tt
each_not P (x ∷ xs) n = ((λ p. n (inl p)), each_not P xs (λ h. n (inr h)))

not_among : {A : Type 0} (P : A → Type 0) (xs : List A) → AllByRecursion (λ x. ¬ P x) xs → ¬ Among P xs
not_among P [] n h = h
not_among P (x ∷ xs) n (inl p) = n.0 p
not_among P (x ∷ xs) n (inr h) = not_among P xs n.1 h

each_of_map : {A B : Type 0} (f : A → B) (P : B → Type 0) (xs : List A) → AllByRecursion (λ x. P (f x)) xs → AllByRecursion P (map f xs)
each_of_map f P [] h = tt
each_of_map f P (x ∷ xs) h = (h.0, each_of_map f P xs h.1)

-- what is among the images is the image of one
among_image : {A B : Type 0} (f : A → B) (y : B) (xs : List A) → Among (λ z. z ≡ y) (map f xs) →
    (x : A) × (f x ≡ y) × Among (λ z. z ≡ x) xs
among_image f y [] h = absurd h
among_image f y (x ∷ xs) (inl p) = (x, p, inl refl)
among_image f y (x ∷ xs) (inr h) = let (z, is, there) = among_image f y xs h in (z, is, inr there)

among_of_map : {A B : Type 0} (f : A → B) (P : B → Type 0) (Q : A → Type 0) (xs : List A) → ((x : A) → P (f x) → Q x) →
    Among P (map f xs) → Among Q xs
among_of_map f P Q [] g h = h
among_of_map f P Q (x ∷ xs) g (inl p) = inl (g x p)
among_of_map f P Q (x ∷ xs) g (inr h) = inr (among_of_map f P Q xs g h)

among_kept : {A : Type 0} (P : A → Type 0) (p : A → Bool) (xs : List A) → Among P (filter p xs) → Among P xs
among_kept P p [] h = h
among_kept P p (x ∷ xs) h =
    elim (bool_cases (p x)) [
      | inl e ↦
          elim (subst (λ (t : Bool). Among P (cond t (x ∷ filter p xs) (filter p xs))) e h) [
            | inl a ↦ inl a
            | inr a ↦ inr (among_kept P p xs a)
          ]
      | inr e ↦ inr (among_kept P p xs (subst (λ (t : Bool). Among P (cond t (x ∷ filter p xs) (filter p xs))) e h))
    ]

-- what is kept passes the test
each_kept : {A : Type 0} (P : A → Type 0) (p : A → Bool) (xs : List A) → AllByRecursion P xs →
    AllByRecursion (λ x. P x × (p x ≡ true)) (filter p xs)
each_kept P p [] h = tt
each_kept P p (x ∷ xs) h =
    elim (bool_cases (p x)) [
      | inl e ↦
          subst (λ (t : Bool). AllByRecursion (λ z. P z × (p z ≡ true)) (cond t (x ∷ filter p xs) (filter p xs))) (sym e)
          ((h.0, e), each_kept P p xs h.1)
      | inr e ↦
          subst (λ (t : Bool). AllByRecursion (λ z. P z × (p z ≡ true)) (cond t (x ∷ filter p xs) (filter p xs))) (sym e)
          (each_kept P p xs h.1)
    ]

each_true : {A : Type 0} (p : A → Bool) (xs : List A) → AllByRecursion (λ x. p x ≡ true) (filter p xs)
each_true p [] = tt
each_true p (x ∷ xs) =
    elim (bool_cases (p x)) [
      | inl e ↦
          subst (λ (t : Bool). AllByRecursion (λ z. p z ≡ true) (cond t (x ∷ filter p xs) (filter p xs))) (sym e) (e, each_true p xs)
      | inr e ↦
          subst (λ (t : Bool). AllByRecursion (λ z. p z ≡ true) (cond t (x ∷ filter p xs) (filter p xs))) (sym e) (each_true p xs)
    ]

distinct_kept : {A : Type 0} (R : A → A → Type 0) (p : A → Bool) (xs : List A) → Distinct R xs → Distinct R (filter p xs)
distinct_kept R p [] d = tt
distinct_kept R p (x ∷ xs) d =
    elim (bool_cases (p x)) [
      | inl e ↦
          subst (λ (t : Bool). Distinct R (cond t (x ∷ filter p xs) (filter p xs))) (sym e)
          ((λ h. d.0 (among_kept (R x) p xs h)), distinct_kept R p xs d.1)
      | inr e ↦ subst (λ (t : Bool). Distinct R (cond t (x ∷ filter p xs) (filter p xs))) (sym e) (distinct_kept R p xs d.1)
    ]

distinct_joined : {A : Type 0} (R : A → A → Type 0) (xs ys : List A) → Distinct R xs → Distinct R ys →
    AllByRecursion (λ x. ¬ Among (R x) ys) xs → Distinct R (xs ++ ys)
distinct_joined R [] ys d e c = e
distinct_joined R (x ∷ xs) ys d e c =
    ((λ h. elim (among_split (R x) xs ys h) [ inl a ↦ d.0 a | inr a ↦ c.0 a ]), distinct_joined R xs ys d.1 e c.1)

distinct_of_map : {A B : Type 0} (f : A → B) (R : A → A → Type 0) (S : B → B → Type 0) → ((x y : A) → S (f x) (f y) → R x y) →
    (xs : List A) → Distinct R xs → Distinct S (map f xs)
distinct_of_map f R S g [] d = tt
distinct_of_map f R S g (x ∷ xs) d =
    ((λ h. d.0 (among_of_map f (S (f x)) (R x) xs (λ y s. g x y s) h)), distinct_of_map f R S g xs d.1)

-- ---- consolidation

-- entries of one key
abbrev SameKey : {K : Type 0} → K × ℤ → K × ℤ → Type 0
SameKey x y = x.0 ≡ y.0

-- the first, or one of the rest
unless : {A : Type 0} (P : A → Type 0) (b : Bool) (x : A) (xs : List A) → Among P (cond b xs (x ∷ xs)) → P x ⊎ Among P xs
unless P true x xs h = inr h
unless P false x xs h = h

each_unless : {A : Type 0} (P : A → Type 0) (b : Bool) (x : A) (xs : List A) → P x → AllByRecursion P xs →
    AllByRecursion P (cond b xs (x ∷ xs))
each_unless P true x xs a h = h
each_unless P false x xs a h = (a, h)

module _ {K : Type 0} (R : K → K → Ordering) where
  -- where a difference is added, by how its key compares with the first
  abbrev added_by : Ordering → K → ℤ → K × ℤ → List (K × ℤ) → List (K × ℤ)
  added_by r k d e es =
      match_ordering r (cond (int_eq d (pos 0)) (e ∷ es) ((k, d) ∷ e ∷ es))
      (cond (int_eq (d +ℤ e.1) (pos 0)) es ((e.0, d +ℤ e.1) ∷ es)) (e ∷ added R k d es)

  -- what holds of each key goes on to where one difference is added at such a key
  added_keys : (Q : K → Type 0) (k : K) (d : ℤ) (es : List (K × ℤ)) → Q k → AllByRecursion (λ e. Q e.0) es →
      AllByRecursion (λ e. Q e.0) (added R k d es)
  added_keys Q k d [] q h = each_unless (λ (e : K × ℤ). Q e.0) (int_eq d (pos 0)) (k, d) [] q tt
  added_keys Q k d (e ∷ es) q h =
      elim (R k e.0) as (λ r. AllByRecursion (λ e. Q e.0) (added_by r k d e es)) [
        | Less ↦ each_unless (λ (e : K × ℤ). Q e.0) (int_eq d (pos 0)) (k, d) (e ∷ es) q h
        | Equal ↦ each_unless (λ (e : K × ℤ). Q e.0) (int_eq (d +ℤ e.1) (pos 0)) (e.0, d +ℤ e.1) es h.0 h.1
        | Greater ↦ (h.0, added_keys Q k d es q h.1)
      ]

  consolidated_keys : (Q : K → Type 0) (es : List (K × ℤ)) → AllByRecursion (λ e. Q e.0) es →
      AllByRecursion (λ e. Q e.0) (consolidated R es)
  unfolding consolidated
  consolidated_keys Q [] h = tt
  consolidated_keys Q (e ∷ es) h = added_keys Q e.0 e.1 (consolidated R es) h.0 (consolidated_keys Q es h.1)

  module _ (exact : CmpEqualImpliesEq R) where
    -- a difference that is added at a new key is one more entry
    added_among : (k : K) (d : ℤ) (es : List (K × ℤ)) (e : K × ℤ) → ¬ Among (λ x. k ≡ x.0) es →
        Among (λ x. x ≡ e) (added R k d es) → ((k, d) ≡ e) ⊎ Among (λ x. x ≡ e) es
    added_among k d [] e new h = unless (λ (x : K × ℤ). x ≡ e) (int_eq d (pos 0)) (k, d) [] h
    added_among k d (x ∷ es) e new h =
        elim (R k x.0) as (λ r. R k x.0 ≡ r → Among (λ y. y ≡ e) (added_by r k d x es) → ((k, d) ≡ e) ⊎ Among (λ y. y ≡ e) (x ∷ es)) [
          | Less ↦ λ is g. unless (λ (y : K × ℤ). y ≡ e) (int_eq d (pos 0)) (k, d) (x ∷ es) g
          | Equal ↦ λ is g. absurd (new (inl (exact k x.0 is)))
          | Greater ↦ λ is g. elim g [
            | inl p ↦ inr (inl p)
            | inr q ↦ elim (added_among k d es e (λ n. new (inr n)) q) [ inl p ↦ inl p | inr p ↦ inr (inr p) ]
          ]
        ] refl h

    -- where no key stands twice, consolidation makes no new entry
    consolidated_among : (es : List (K × ℤ)) (e : K × ℤ) → Distinct SameKey es → Among (λ x. x ≡ e) (consolidated R es) →
        Among (λ x. x ≡ e) es
    unfolding consolidated
    consolidated_among [] e d h = h
    consolidated_among (x ∷ es) e d h =
        elim (added_among x.0 x.1 (consolidated R es) e
        (not_among (λ y. x.0 ≡ y.0) (consolidated R es) (consolidated_keys (λ k. ¬ (x.0 ≡ k)) es (each_not (λ y. x.0 ≡ y.0) es d.0))) h) [
          | inl p ↦ inl p
          | inr p ↦ inr (consolidated_among es e d.1 p)
        ]

-- updates of one time and datum
abbrev pub Same : Update → Update → Type 0
Same u v = (u.time ≡ v.time) × (u.datum ≡ v.datum)

-- where no two are of one time and datum, the rows of a slice are of the list
pub slice_among : (us : List Update) (f g : Option ℕ) → Distinct Same (between f g us) → (u : Update) →
    Among (λ v. v ≡ u) (slice_of us f g) → Among (λ v. v ≡ u) us
slice_among us f g d u h =
    let vs = between f g us in
    let (e, is, there) = among_image update_in_time u (consolidated time_cmp (map time_entry vs)) h in
    let there2 =
    consolidated_among time_cmp times_exact (map time_entry vs) e
    (distinct_of_map time_entry Same SameKey
    (λ x y k. (ap (λ (p : ℕ × List ℕ). p.0) k, ap (λ (p : ℕ × List ℕ). p.1) k)) vs d) there in
    let (v, is2, there3) = among_image time_entry e vs there2 in
    let same : v ≡ u = ap update_in_time is2 ∙ is in
    among_kept (λ w. w ≡ u) _ us (subst (λ (w : Update). Among (λ z. z ≡ w) vs) same there3)

-- what holds of each time holds of each time of a consolidation
cons_times : (Q : ℕ → Type 0) (us : List Update) → AllByRecursion (λ u. Q u.time) us → AllByRecursion (λ u. Q u.time) (cons us)
cons_times Q us h =
    each_of_map update_at (λ (u : Update). Q u.time) (consolidated moment_cmp (map moment_entry us))
    (consolidated_keys moment_cmp (λ k. Q k.1) (map moment_entry us) (each_of_map moment_entry (λ e. Q e.0.1) us h))

-- no two rows of a consolidation are of one time and datum
sorted_apart : (cs : List Update) → IsStrictlySortedBy moment_cmp (first_of_each (map moment_entry cs)) → Distinct Same cs
unfolding IsStrictlySortedBy
sorted_apart [] h = tt
sorted_apart (c ∷ cs) h = (below c cs h.0, sorted_apart cs h.1)
  where
    below : (c : Update) (vs : List Update) →
        AllByRecursion (λ y. moment_cmp (c.datum, c.time) y ≡ Less) (first_of_each (map moment_entry vs)) → ¬ Among (Same c) vs
    below c [] h s = s
    below c (v ∷ vs) h (inl p) =
        let same : moment_cmp (c.datum, c.time) (c.datum, c.time) ≡ moment_cmp (c.datum, c.time) (v.datum, v.time) =
        λ i. moment_cmp (c.datum, c.time) (p.1 i, p.0 i) in
        let tied : moment_cmp (c.datum, c.time) (c.datum, c.time) ≡ Equal = tied_itself moments_total (c.datum, c.time) in
        let less : moment_cmp (c.datum, c.time) (v.datum, v.time) ≡ Less = h.0 in
        let no : Less ≡ Equal = sym less ∙ sym same ∙ tied in cc
    below c (v ∷ vs) h (inr s) = below c vs h.1 s

-- ---- batches

both : (a b : Bool) → a && b ≡ true → (a ≡ true) × (b ≡ true)
both true b h = (refl, h)
both false b h = cc

at_least : (a b : ℕ) → nat_le a b ≡ true → a ≤ b
at_least a b h = grind (arith, nat_tests)

not_before : (lower t : ℕ) → lower ≤ t → covers (Some lower) t ≡ false
not_before lower t h = grind (arith, nat_tests)

module _ (f : ℕ) where
  -- a time from f on lies in the span
  abbrev Within : Desc → ℕ → Type 0
  Within d t = f ≤ t → (d.lower ≤ t) × (covers d.upper t ≡ true)

  moved_within : (d : Desc) (t : ℕ) → d.since < f → (nat_le d.lower t && covers d.upper t) ≡ true → Within d (max t d.since)
  moved_within d t lt h le =
      let (a, b) = both (nat_le d.lower t) (covers d.upper t) h in
      let low : d.lower ≤ t = at_least d.lower t a in
      let same : max t d.since ≡ t = omega arith in
      (omega arith, subst (λ (n : ℕ). covers d.upper n ≡ true) (sym same) b)

  -- the rows of a batch from f on, past its since, lie in its span
  batch_within : (list : List Update) (d : Desc) → d.since < f → AllByRecursion (λ u. Within d u.time) (batch_of list d)
  batch_within list d lt =
      cons_times (Within d) (span_of list d)
      (each_of_map (moved_by d.since) (λ (u : Update). Within d u.time) (between (Some d.lower) d.upper list)
      (each_map (λ (u : Update). (nat_le d.lower u.time && covers d.upper u.time) ≡ true) (λ (u : Update). Within d (max u.time d.since))
      (between (Some d.lower) d.upper list) (λ u h. moved_within d u.time lt h)
      (each_true (λ (u : Update). nat_le d.lower u.time && covers d.upper u.time) list)))

  -- no batch is moved to f
  abbrev pub MovedBefore : List Batch → Type 0
  MovedBefore bs = AllByRecursion (λ b. b.desc.since < f) bs

  module _ (list : List Update) (g : Option ℕ) (p : Batch → Bool) where
    -- what is cut out of the rows of a batch
    cut_within : (d : Desc) → d.since < f →
        AllByRecursion (λ u. (d.lower ≤ u.time) × (covers d.upper u.time ≡ true)) (between (Some f) g (batch_of list d))
    cut_within d lt =
        each_map (λ (u : Update). Within d u.time × ((nat_le f u.time && covers g u.time) ≡ true))
        (λ (u : Update). (d.lower ≤ u.time) × (covers d.upper u.time ≡ true)) (between (Some f) g (batch_of list d))
        (λ u h. h.0 (at_least f u.time (both (nat_le f u.time) (covers g u.time) h.1).0))
        (each_kept (λ (u : Update). Within d u.time) (λ (u : Update). nat_le f u.time && covers g u.time) (batch_of list d)
        (batch_within list d lt))

    cut_joined : (us vs : List Update) → between (Some f) g (us ++ vs) ≡ between (Some f) g us ++ between (Some f) g vs
    cut_joined us vs = filter-append (λ (u : Update). nat_le f u.time && covers g u.time) us vs

    -- the rows from f on are past a frontier
    abbrev Past : Option ℕ → List Update → Type 0
    Past q us = AllByRecursion (λ u. covers q u.time ≡ false) (between (Some f) g us)

    -- the rows of batches that follow a frontier are past it
    rows_past : (q : Option ℕ) (bs : List Batch) → Follows q bs → MovedBefore bs →
        AllByRecursion (λ u. covers q u.time ≡ false) (between (Some f) g (held list (filter p bs)))
    rows_past q [] ok before = tt
    rows_past q (b ∷ bs) ok before =
        let rest = on (rows_past b.desc.upper bs ok.2 before.1) in
        elim (bool_cases (p b)) [
          | inl e ↦
              subst (λ (t : Bool). Past q (held list (cond t (b ∷ filter p bs) (filter p bs)))) (sym e)
              (subst (AllByRecursion (λ u. covers q u.time ≡ false)) (sym (cut_joined (batch_of list b.desc) (held list (filter p bs))))
              (each_append (λ (u : Update). covers q u.time ≡ false) (between (Some f) g (batch_of list b.desc)) (between (Some f) g (held list (filter p bs)))
              first rest))
          | inr e ↦ subst (λ (t : Bool). Past q (held list (cond t (b ∷ filter p bs) (filter p bs)))) (sym e) rest
        ]
      where
        first : Past q (batch_of list b.desc)
        first =
            each_map (λ (u : Update). (b.desc.lower ≤ u.time) × (covers b.desc.upper u.time ≡ true)) (λ (u : Update). covers q u.time ≡ false)
            (between (Some f) g (batch_of list b.desc))
            (λ u h. subst (λ (w : Option ℕ). covers w u.time ≡ false) (sym ok.0) (not_before b.desc.lower u.time h.0))
            (cut_within b.desc before.0)

        on : Past b.desc.upper (held list (filter p bs)) → Past q (held list (filter p bs))
        on older =
            each_map (λ (u : Update). covers b.desc.upper u.time ≡ false) (λ (u : Update). covers q u.time ≡ false)
            (between (Some f) g (held list (filter p bs)))
            (λ u h. elim (bool_cases (covers q u.time)) [
              | inl e ↦ absurd (
                  let lt : u.time < b.desc.lower = covers_open b.desc.lower u.time (subst (λ (w : Option ℕ). covers w u.time ≡ true) ok.0 e) in
                  let in_upper = covers_earlier b.desc.upper b.desc.lower u.time (omega arith) ok.1 in
                  let no : true ≡ false = sym in_upper ∙ h in cc)
              | inr e ↦ e
            ]) older

    -- no two of them are of one time and datum
    pub rows_apart : (q : Option ℕ) (bs : List Batch) → Follows q bs → MovedBefore bs →
        Distinct Same (between (Some f) g (held list (filter p bs)))
    rows_apart q [] ok before = tt
    rows_apart q (b ∷ bs) ok before =
        let rest = rows_apart b.desc.upper bs ok.2 before.1 in
        elim (bool_cases (p b)) [
          | inl e ↦
              subst (λ (t : Bool). Distinct Same (between (Some f) g (held list (cond t (b ∷ filter p bs) (filter p bs))))) (sym e)
              (subst (Distinct Same) (sym (cut_joined (batch_of list b.desc) (held list (filter p bs))))
              (distinct_joined Same (between (Some f) g (batch_of list b.desc)) (between (Some f) g (held list (filter p bs)))
              (distinct_kept Same (λ (u : Update). nat_le f u.time && covers g u.time) (batch_of list b.desc)
              (sorted_apart (batch_of list b.desc) (cons_is (span_of list b.desc)).rising))
              rest
              (each_map (λ (u : Update). (b.desc.lower ≤ u.time) × (covers b.desc.upper u.time ≡ true))
              (λ (u : Update). ¬ Among (Same u) (between (Some f) g (held list (filter p bs)))) (between (Some f) g (batch_of list b.desc))
              (λ u h. not_among (Same u) (between (Some f) g (held list (filter p bs)))
              (each_map (λ (v : Update). covers b.desc.upper v.time ≡ false) (λ (v : Update). ¬ Same u v)
              (between (Some f) g (held list (filter p bs)))
              (λ v out same. let no : true ≡ false = sym h.1 ∙ ap (covers b.desc.upper) same.0 ∙ out in cc)
              (rows_past b.desc.upper bs ok.2 before.1)))
              (cut_within b.desc before.0))))
          | inr e ↦ subst (λ (t : Bool). Distinct Same (between (Some f) g (held list (cond t (b ∷ filter p bs) (filter p bs))))) (sym e) rest
        ]
