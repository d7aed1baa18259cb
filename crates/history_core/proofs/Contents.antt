-- What a transition makes of what the batches hold.
use Rattle.std.proofs.Common.{◌≡◌, ◌&&◌, ℕ, suc, ◌<◌, ◌≤◌, Bool, true, false, cond, List, [], ◌∷◌, ◌++◌, Option, Some, length, max, inl, inr, refl, arith, subst, sym, ap, ◌∙◌, append_assoc}
use Rattle.std.specs.List.{AllByRecursion}
use Rattle.std.specs.Prelude.{nat_le}
use Rattle.std.proofs.lemmas.Bool.Decides.{nat_tests}
use Rattle.std.proofs.lemmas.List.Elements.{filter-append}
use Rattle.update_core.specs.declared.updates.Update.{Update}
use Rattle.update_core.specs.Frontiers.{covers}
use Rattle.update_core.specs.Updates.{IsCons, moved, between, weight_of, cons}
use Rattle.update_core.proofs.UpdateLaws.{is_cons}
use Rattle.update_core.proofs.WeightLaws.{weight_of-append}
use Rattle.store_core.specs.declared.part_keys.PartKey.{PartKey}
use Rattle.store_core.specs.Stores.{Stored}
use Rattle.store_core.specs.Ports.{Answered}
use Rattle.spine_core.specs.declared.batches.Batch.{Batch}
use Rattle.spine_core.specs.Contents.{IsBatchOf, batch_of, span_of, held, Merges}
use Rattle.spine_core.proofs.ContentLaws.{is_batch, batch_is, batch_of-more, batches_merge}
use Rattle.part_codec.specs.Parts.{NonZero}
use Rattle.state_core.specs.Lists.{Among}
use Rattle.state_core.specs.States.{ShardState, IsState, keys_of}
use Rattle.state_core.specs.Steps.{Applies}
use Rattle.state_core.specs.declared.transitions.Transition.TheVariants.{Append, Merge}
use Rattle.state_core.proofs.Batches.{Runs, covers_open, covers_earlier, runs_each, runs_pair, runs_state}
use Rattle.state_core.proofs.ListLemmas.{bool_cases, each_map, each_both, each_append, each_front, each_back, append-nil}
use Rattle.history_core.specs.Discipline.{Hold, AppendHolds, MergeHolds, StoredAs, GotAs}
use Rattle.history_core.specs.Stands.{PartRows, BatchHolds, rows_under}
use Rattle.history_core.proofs.ReadingFacts.{rows_in_nonzero}

-- the rows that the parts hold are those under the keys
pub part_rows_under : (store : Stored) (ks : List PartKey) (rows : List Update) → PartRows store ks rows
    → rows_under store ks ≡ rows
part_rows_under store [] rows h = sym h
part_rows_under store (k ∷ ks) rows h = rw (h.3, h.4) (ap (λ (us : List Update). h.1 ++ us) (part_rows_under store ks h.2 h.6) ∙ sym h.5)

-- what is held by bytes that the store has is held there
pub hold_rows : (store : Stored) (P : PartKey → List ℕ → Type 0) (ks : List PartKey) (rows : List Update)
    → ((k : PartKey) (b : List ℕ) → Among (λ q. q ≡ k) ks → P k b → store.blobs k ≡ Some b) → Hold P ks rows → PartRows store ks rows
hold_rows store P [] rows f h = h
hold_rows store P (k ∷ ks) rows f h = (h.0, h.1, h.2, f k h.0 (inl refl) h.3, h.4, h.5, hold_rows store P ks h.2 (λ q b a p. f q b (inr a) p) h.6)

nonzero_append : (us vs : List Update) → NonZero us → NonZero vs → NonZero (us ++ vs)
nonzero_append [] vs a b = b
nonzero_append (u ∷ us) vs a b = (a.0, nonzero_append us vs a.1 b)

hold_nonzero : (P : PartKey → List ℕ → Type 0) (ks : List PartKey) (rows : List Update) → Hold P ks rows → NonZero rows
hold_nonzero P [] rows h = subst NonZero (sym h) tt
hold_nonzero P (k ∷ ks) rows h = subst NonZero (sym h.5) (nonzero_append h.1 h.2 (rows_in_nonzero h.0 h.1 h.4) (hold_nonzero P ks h.2 h.6))

-- parts that hold rows hold no others
pub part_rows_one : (store : Stored) (ks : List PartKey) (rows rows2 : List Update) → PartRows store ks rows
    → PartRows store ks rows2 → rows ≡ rows2
part_rows_one store ks rows rows2 h g = sym (part_rows_under store ks rows h) ∙ part_rows_under store ks rows2 g

pub part_rows_append : (store : Stored) (ks qs : List PartKey) (rows rows2 : List Update) → PartRows store ks rows
    → PartRows store qs rows2 → PartRows store (ks ++ qs) (rows ++ rows2)
part_rows_append store [] qs rows rows2 h g = subst (λ (r : List Update). PartRows store qs (r ++ rows2)) (sym h) g
part_rows_append store (k ∷ ks) qs rows rows2 h g =
    (h.0, h.1, h.2 ++ rows2, h.3, h.4, ap (λ (us : List Update). us ++ rows2) h.5 ∙ append_assoc h.1 h.2 rows2, part_rows_append store ks qs h.2 rows2 h.6 g)

-- a store with the same bytes under the keys has the same rows there
pub part_rows_on : (s t : Stored) (ks : List PartKey) (rows : List Update) → AllByRecursion (λ k. t.blobs k ≡ s.blobs k) ks
    → PartRows s ks rows → PartRows t ks rows
part_rows_on s t [] rows e h = h
part_rows_on s t (k ∷ ks) rows e h = (h.0, h.1, h.2, e.0 ∙ h.3, h.4, h.5, part_rows_on s t ks h.2 e.1 h.6)

-- the parts of batches that hold a list have what batches hold of it
pub rows_held : (store : Stored) (list : List Update) (bs : List Batch) → AllByRecursion (BatchHolds store list) bs
    → PartRows store (keys_of bs) (held list bs)
rows_held store list [] h = refl
rows_held store list (b ∷ bs) h =
    part_rows_append store b.parts (keys_of bs) (batch_of list b.desc) (held list bs)
    (subst (λ (rows : List Update). PartRows store b.parts rows) (is_batch list b.desc h.0.0 h.0.2) h.0.1) (rows_held store list bs h.1)

-- a batch goes on to hold what it did where the list grows past it
pub batch_grow : (store : Stored) (list new : List Update) (b : Batch) (upper : Option ℕ)
    → ((t : ℕ) → covers b.desc.upper t ≡ true → covers upper t ≡ true)
    → AllByRecursion (λ u. covers upper u.time ≡ false) new → BatchHolds store list b → BatchHolds store (list ++ new) b
batch_grow store list new b upper f late h =
    (h.0, h.1, subst (λ (rows : List Update). IsBatchOf (list ++ new) b.desc rows) (sym same) (batch_is (list ++ new) b.desc), h.3)
  where
    outside : AllByRecursion (λ u. covers b.desc.upper u.time ≡ false) new
    outside = each_map (λ u. covers upper u.time ≡ false) (λ u. covers b.desc.upper u.time ≡ false) new
        (λ u late2. elim (bool_cases (covers b.desc.upper u.time)) [ inl e ↦ absurd (let yes = f u.time e in cc) | inr e ↦ e ]) late

    same : h.0 ≡ batch_of (list ++ new) b.desc
    same = is_batch list b.desc h.0 h.2 ∙ sym (batch_of-more list new b.desc (record { all = outside }))

-- what a transition makes of the content
pub record Content (store : Stored) (list new : List Update) (from to : ShardState) : Type 0 where
  pub batches : AllByRecursion (BatchHolds store (list ++ new)) to.batches
  pub before_upper : AllByRecursion (λ u. covers to.upper u.time ≡ true) (list ++ new)
  pub light : weight_of (list ++ new) ≤ to.weight
  pub late : AllByRecursion (λ u. covers from.upper u.time ≡ false) new

-- ---- updates between two frontiers

none_from : (lower : ℕ) (upper : Option ℕ) (us : List Update) → AllByRecursion (λ u. u.time < lower) us
    → between (Some lower) upper us ≡ []
none_from lower upper [] h = refl
none_from lower upper (u ∷ us) h =
    ap (λ (b : Bool). cond (b && covers upper u.time) (u ∷ between (Some lower) upper us) (between (Some lower) upper us)) (early u.time h.0) ∙ none_from lower upper us h.1
  where
    early : (n : ℕ) → n < lower → nat_le lower n ≡ false
    early n lt = grind (arith, nat_tests)

between-length : (lower : ℕ) (upper : Option ℕ) (us : List Update) → length (between (Some lower) upper us) ≤ length us
between-length lower upper [] = omega arith
between-length lower upper (u ∷ us) =
    let rest = between-length lower upper us in
    elim (bool_cases (nat_le lower u.time && covers upper u.time)) [ inl e ↦ rw e (omega arith) | inr e ↦ rw e (omega arith) ]

-- updates that all lie between two frontiers
all_within : (lower : ℕ) (upper : Option ℕ) (us : List Update) → between (Some lower) upper us ≡ us
    → AllByRecursion (λ u. (nat_le lower u.time && covers upper u.time) ≡ true) us
all_within lower upper [] h = tt
all_within lower upper (u ∷ us) h = elim (bool_cases (nat_le lower u.time && covers upper u.time)) [
  | inl e ↦
      let h2 : u ∷ between (Some lower) upper us ≡ u ∷ us = rw e at h in
      let h3 : between (Some lower) upper us ≡ us = cc in
      (e, all_within lower upper us h3)
  | inr e ↦
      let h2 : between (Some lower) upper us ≡ u ∷ us = rw e at h in
      let n : length (between (Some lower) upper us) ≡ suc (length us) = ap length h2 in
      let le = between-length lower upper us in
      absurd (omega arith)
]

moved-zero : (us : List Update) → moved us 0 ≡ us
moved-zero [] = refl
moved-zero (u ∷ us) = let same : max u.time 0 ≡ u.time = omega arith in (λ i. record u { time = same i } ∷ moved-zero us i)

both : (a b : Bool) → a && b ≡ true → (a ≡ true) × (b ≡ true)
both true true h = (refl, refl)
both true false h = cc
both false b h = cc

not_before : (n lower : ℕ) → nat_le lower n ≡ true → covers (Some lower) n ≡ false
not_before n lower h = grind (arith, nat_tests)

module _ (store : Stored) (own : List Answered) (list : List Update) (from to : ShardState) (rules : IsState from)
    (holds : AllByRecursion (BatchHolds store list) from.batches) (before_upper : AllByRecursion (λ u. covers from.upper u.time ≡ true) list) (light : weight_of list ≤ from.weight) where
  -- a transition that leaves batches, upper and weight leaves the content
  pub content_same : to.batches ≡ from.batches → to.upper ≡ from.upper → to.weight ≡ from.weight → Content store list [] from to
  content_same a b c = record {
    batches = subst (λ (us : List Update). AllByRecursion (BatchHolds store us) to.batches) (sym (append-nil list)) (subst (λ (bs : List Batch). AllByRecursion (BatchHolds store list) bs) (sym a) holds);
    before_upper = subst (λ (us : List Update). AllByRecursion (λ u. covers to.upper u.time ≡ true) us) (sym (append-nil list)) (subst (λ (f : Option ℕ). AllByRecursion (λ u. covers f u.time ≡ true) list) (sym b) before_upper);
    light = subst (λ (us : List Update). weight_of us ≤ to.weight) (sym (append-nil list)) (subst (λ (n : ℕ). weight_of list ≤ n) (sym c) light);
    late = tt;
  }

  -- an append adds its batch, and its rows to the list
  pub content_append : (member token expected : ℕ) (new : Option ℕ) (parts : List PartKey) (rows weight : ℕ)
      → Applies from (Append member token expected new parts rows weight) to
      → (h : AppendHolds own expected new parts rows weight) → ((k : PartKey) (b : List ℕ) → Among (λ q. q ≡ k) parts → StoredAs own k b → store.blobs k ≡ Some b)
      → Content store list h.updates from to
  content_append member token expected new parts rows weight a h stored = record {
    batches = rw a.makes.effect (each_append (BatchHolds store (list ++ us)) from.batches _ old (newest, tt));
    before_upper = rw a.makes.effect (each_append (λ u. covers new u.time ≡ true) list us
        (each_map (λ u. covers from.upper u.time ≡ true) (λ u. covers new u.time ≡ true) list
        (λ u c. covers_earlier new expected u.time (let lt : u.time < expected = early u c in omega arith) a.makes.shape.forward) before_upper)
        (each_map (λ u. (nat_le expected u.time && covers new u.time) ≡ true) (λ u. covers new u.time ≡ true) us (λ u e. (both (nat_le expected u.time) _ e).1) in_range));
    light = rw (a.makes.effect, weight_of-append list us) (let l1 = h.light in let l2 = light in omega arith);
    late = late;
  }
    where
      us : List Update
      us = h.updates

      early : (u : Update) → covers from.upper u.time ≡ true → u.time < expected
      early u c = covers_open expected u.time (subst (λ (f : Option ℕ). covers f u.time ≡ true) a.makes.fits c)

      in_range : AllByRecursion (λ u. (nat_le expected u.time && covers new u.time) ≡ true) us
      in_range = all_within expected new us h.in_range

      late : AllByRecursion (λ u. covers from.upper u.time ≡ false) us
      late = each_map (λ u. (nat_le expected u.time && covers new u.time) ≡ true) (λ u. covers from.upper u.time ≡ false) us
          (λ u e. subst (λ (f : Option ℕ). covers f u.time ≡ false) (sym a.makes.fits) (not_before u.time expected (both (nat_le expected u.time) _ e).0)) in_range

      old : AllByRecursion (BatchHolds store (list ++ us)) from.batches
      old = each_both (λ b. (t : ℕ) → covers b.desc.upper t ≡ true → covers from.upper t ≡ true) (BatchHolds store list) (BatchHolds store (list ++ us)) from.batches
          (λ b f g. batch_grow store list us b from.upper f late g) (runs_each (Some 0) from.batches from.upper (runs_state from rules)) holds

      none : between (Some expected) new list ≡ []
      none = none_from expected new list (each_map (λ u. covers from.upper u.time ≡ true) (λ u. u.time < expected) list early before_upper)

      span_is : span_of (list ++ us) (record { lower = expected; upper = new; since = 0 }) ≡ us
      span_is = ap (λ (xs : List Update). moved xs 0) (filter-append (λ (u : Update). nat_le expected u.time && covers new u.time) list us ∙ ap (λ (xs : List Update). xs ++ between (Some expected) new us) none ∙ h.in_range) ∙ moved-zero us

      newest : BatchHolds store (list ++ us) (record { desc = record { lower = expected; upper = new; since = 0 }; parts = parts; rows = rows })
      newest = (
        us,
        hold_rows store (StoredAs own) parts us stored h.hold,
        subst (λ (xs : List Update). IsCons xs us) (sym span_is) (record { rising = h.rising; nonzero = hold_nonzero (StoredAs own) parts us h.hold; same = λ k. refl }),
        h.count,
      )

  -- a merge's batch holds what the two held
  pub content_merge : (member token : ℕ) (left right merged : Batch) → Applies from (Merge member token left right merged) to
      → MergeHolds own left right merged
      → ((k : PartKey) (b : List ℕ) → Among (λ q. q ≡ k) merged.parts → StoredAs own k b → store.blobs k ≡ Some b)
      → ((k : PartKey) (b : List ℕ) → Among (λ q. q ≡ k) (left.parts ++ right.parts) → GotAs own k b → store.blobs k ≡ Some b)
      → Content store list [] from to
  content_merge member token left right merged a h stored got = record {
    batches = subst (λ (us : List Update). AllByRecursion (BatchHolds store us) to.batches) (sym (append-nil list))
        (rw a.makes.effect (each_append (BatchHolds store list) a.makes.before _ (each_front (BatchHolds store list) a.makes.before _ holds2) (merged_holds, back.1.1)));
    before_upper = subst (λ (us : List Update). AllByRecursion (λ u. covers to.upper u.time ≡ true) us) (sym (append-nil list)) (rw a.makes.effect before_upper);
    light = subst (λ (us : List Update). weight_of us ≤ to.weight) (sym (append-nil list)) (rw a.makes.effect light);
    late = tt;
  }
    where
      holds2 : AllByRecursion (BatchHolds store list) (a.makes.before ++ left ∷ right ∷ a.makes.behind)
      holds2 = subst (λ (bs : List Batch). AllByRecursion (BatchHolds store list) bs) a.makes.present holds

      back : AllByRecursion (BatchHolds store list) (left ∷ right ∷ a.makes.behind)
      back = each_back (BatchHolds store list) a.makes.before _ holds2

      lh : BatchHolds store list left
      lh = back.0

      rh : BatchHolds store list right
      rh = back.1.0

      inputs_are : h.inputs ≡ batch_of list left.desc ++ batch_of list right.desc
      inputs_are = part_rows_one store (left.parts ++ right.parts) h.inputs (lh.0 ++ rh.0) (hold_rows store (GotAs own) (left.parts ++ right.parts) h.inputs got h.read)
          (part_rows_append store left.parts right.parts lh.0 rh.0 lh.1 rh.1)
          ∙ (λ i. is_batch list left.desc lh.0 lh.2 i ++ is_batch list right.desc rh.0 rh.2 i)

      pair : (left.desc.upper ≡ Some right.desc.lower) × (covers left.desc.upper left.desc.lower ≡ true) × (covers right.desc.upper right.desc.lower ≡ true)
      pair = runs_pair (Some 0) a.makes.before a.makes.behind left right from.upper (subst (λ (bs : List Batch). Runs (Some 0) bs from.upper) a.makes.present (runs_state from rules))

      meets : Merges left.desc right.desc merged.desc
      meets = record {
        left_some = pair.1;
        right_some = pair.2;
        next = pair.0;
        lower = a.makes.shape.lower;
        upper = a.makes.shape.upper;
        left_since = a.makes.shape.from_left;
        right_since = a.makes.shape.from_right;
      }

      outputs_are : h.outputs ≡ batch_of list merged.desc
      outputs_are = is_cons (moved h.inputs merged.desc.since) h.outputs h.cons
          ∙ ap (λ (us : List Update). cons (moved us merged.desc.since)) inputs_are
          ∙ batches_merge list left.desc right.desc merged.desc meets

      merged_holds : BatchHolds store list merged
      merged_holds = (
        h.outputs,
        hold_rows store (StoredAs own) merged.parts h.outputs stored h.hold,
        subst (λ (rows : List Update). IsBatchOf list merged.desc rows) (sym outputs_are) (batch_is list merged.desc),
        h.count,
      )
