-- The rows of a batch lie from its lower on, and so do those of its first parts; they are no more than it says.
use Rattle.std.proofs.Common.{◌≡◌, ℕ, zero, suc, ◌+◌, ◌-◌, ◌<◌, ◌≤◌, Bool, true, false, cond, ◌&&◌, ℤ, Option, Some, None, List, [], ◌∷◌, ◌++◌}
use Rattle.std.proofs.Common.{length, take, drop, map, max, inl, inr, refl, sym, ap, subst, ◌∙◌, arith, append_assoc}
use Rattle.std.specs.Prelude.{nat_le, nat_lt}
use Rattle.std.specs.List.{AllByRecursion}
use Rattle.std.specs.Map.{keys_of}
use Rattle.std.proofs.lemmas.Bool.Decides.{nat_tests}
use Rattle.std.proofs.lemmas.List.{length-append}
use Rattle.update_core.specs.declared.updates.Update.{Update}
use Rattle.update_core.specs.Frontiers.{covers}
use Rattle.update_core.specs.Updates.{between, cons, moment_cmp, moment_entry, moved, update_at}
use Rattle.update_core.specs.Totals.{consolidated}
use Rattle.update_core.proofs.Consolidated.{keys-consolidated}
use Rattle.store_core.specs.declared.part_keys.PartKey.{PartKey}
use Rattle.store_core.specs.Stores.{Stored}
use Rattle.spine_core.specs.declared.batches.Batch.{Batch}
use Rattle.spine_core.proofs.ContentLaws.{is_batch}
use Rattle.state_core.proofs.ListLemmas.{bool_cases, each_append, each_back, each_front}
use Rattle.history_core.specs.Stands.{BatchHolds, rows_of_blob, rows_under}
use Rattle.history_core.proofs.Contents.{part_rows_under}
use Rattle.merge_client.specs.Fitting.{is_unfit, lies_below, row_bound}

-- ---- times

-- each row lies from the time on
abbrev pub AllFrom : ℕ → List Update → Type 0
AllFrom lower us = AllByRecursion (λ u. lower ≤ u.time) us

not_less : (t lower : ℕ) → lower ≤ t → nat_lt t lower ≡ false
not_less t lower h = grind (arith, nat_tests)

none_below : (lower : ℕ) (us : List Update) → AllFrom lower us → lies_below lower us ≡ false
none_below lower [] h = refl
none_below lower (u ∷ us) h = rw (not_less u.time lower h.0) (none_below lower us h.1)

from_test : (lower t : ℕ) (b : Bool) → nat_le lower t && b ≡ true → lower ≤ t
from_test lower t true h = grind (arith, nat_tests)
from_test lower t false h = absurd (never (nat_le lower t) h)
  where
    never : (a : Bool) → a && false ≡ true → ⊥
    never true e = let bad : false ≡ true = e in cc
    never false e = let bad : false ≡ true = e in cc

between_from : (lower : ℕ) (upper : Option ℕ) (us : List Update) → AllFrom lower (between (Some lower) upper us)
between_from lower upper [] = tt
between_from lower upper (u ∷ us) = elim (bool_cases (nat_le lower u.time && covers upper u.time)) [
  | inl e ↦ rw e (from_test lower u.time (covers upper u.time) e, between_from lower upper us)
  | inr e ↦ rw e (between_from lower upper us)
]

moved_from : (lower since : ℕ) (us : List Update) → AllFrom lower us → AllFrom lower (moved us since)
moved_from lower since [] h = tt
moved_from lower since (u ∷ us) h = (later u.time h.0, moved_from lower since us h.1)
  where
    later : (t : ℕ) → lower ≤ t → lower ≤ max t since
    later t le = omega (arith, le)

-- by the moments of entries
abbrev KeysFrom : ℕ → List ((List ℕ × ℕ) × ℤ) → Type 0
KeysFrom lower es = AllByRecursion (λ k. lower ≤ k.1) (keys_of es)

keys_from : (lower : ℕ) (us : List Update) → AllFrom lower us → KeysFrom lower (map moment_entry us)
keys_from lower [] h = tt
keys_from lower (u ∷ us) h = (h.0, keys_from lower us h.1)

from_keys : (lower : ℕ) (es : List ((List ℕ × ℕ) × ℤ)) → KeysFrom lower es → AllFrom lower (map update_at es)
from_keys lower [] h = tt
from_keys lower (e ∷ es) h = (h.0, from_keys lower es h.1)

cons_from : (lower : ℕ) (us : List Update) → AllFrom lower us → AllFrom lower (cons us)
cons_from lower us h = from_keys lower (consolidated moment_cmp (map moment_entry us))
    (keys-consolidated moment_cmp (λ k. lower ≤ k.1) (map moment_entry us) (keys_from lower us h))

-- ---- the first parts

module _ (store : Stored) where
  pub under_append : (ks qs : List PartKey) → rows_under store (ks ++ qs) ≡ rows_under store ks ++ rows_under store qs
  under_append [] qs = refl
  under_append (k ∷ ks) qs = ap (λ (us : List Update). rows_of_blob (store.blobs k) ++ us) (under_append ks qs)
      ∙ sym (append_assoc (rows_of_blob (store.blobs k)) (rows_under store ks) (rows_under store qs))

  front_from : (lower n : ℕ) (ks : List PartKey) → AllFrom lower (rows_under store ks) → AllFrom lower (rows_under store (take n ks))
  front_from lower zero [] h = tt
  front_from lower (suc n) [] h = tt
  front_from lower zero (k ∷ ks) h = tt
  front_from lower (suc n) (k ∷ ks) h = each_append (λ u. lower ≤ u.time) (rows_of_blob (store.blobs k)) (rows_under store (take n ks))
      (each_front (λ u. lower ≤ u.time) (rows_of_blob (store.blobs k)) (rows_under store ks) h)
      (front_from lower n ks (each_back (λ u. lower ≤ u.time) (rows_of_blob (store.blobs k)) (rows_under store ks) h))

  front_few : (n : ℕ) (ks : List PartKey) → length (rows_under store (take n ks)) ≤ length (rows_under store ks)
  front_few zero [] = omega arith
  front_few (suc n) [] = omega arith
  front_few zero (k ∷ ks) = omega arith
  front_few (suc n) (k ∷ ks) =
      let rest = front_few n ks in
      omega (
        arith,
        rest,
        length-append (rows_of_blob (store.blobs k)) (rows_under store (take n ks)),
        length-append (rows_of_blob (store.blobs k)) (rows_under store ks),
      )

pub take_within : {A : Type 0} (xs ys : List A) (n : ℕ) → n ≤ length xs → take n (xs ++ ys) ≡ take n xs
take_within [] [] zero h = refl
take_within [] [] (suc n) h = absurd (omega (arith, h))
take_within [] (y ∷ ys) zero h = refl
take_within [] (y ∷ ys) (suc n) h = absurd (omega (arith, h))
take_within (x ∷ xs) ys zero h = refl
take_within (x ∷ xs) ys (suc n) h = ap (λ zs. x ∷ zs) (take_within xs ys n (omega (arith, h)))

pub take_past : {A : Type 0} (xs ys : List A) (n m : ℕ) → n ≡ length xs + m → take n (xs ++ ys) ≡ xs ++ take m ys
take_past [] ys n m h = ap (λ (k : ℕ). take k ys) (omega (arith, h))
take_past (x ∷ xs) ys zero m h = absurd (omega (arith, h))
take_past (x ∷ xs) ys (suc n) m h = ap (λ zs. x ∷ zs) (take_past xs ys n m (omega (arith, h)))

each_drop : {A : Type 0} (P : A → Type 0) (n : ℕ) (xs : List A) → AllByRecursion P xs → AllByRecursion P (drop n xs)
each_drop P zero [] h = h
each_drop P (suc n) [] h = tt
each_drop P zero (x ∷ xs) h = h
each_drop P (suc n) (x ∷ xs) h = each_drop P n xs h.1

each_drop_past : {A : Type 0} (P : A → Type 0) (n : ℕ) (xs ys : List A) → length xs ≤ n → AllByRecursion P ys →
    AllByRecursion P (drop n (xs ++ ys))
each_drop_past P n [] ys h all = each_drop P n ys all
each_drop_past P zero (x ∷ xs) ys h all = absurd (omega (arith, h))
each_drop_past P (suc n) (x ∷ xs) ys h all = each_drop_past P n xs ys (omega (arith, h)) all

-- ---- a batch

-- what the parts of a batch hold
pub record Holds (store : Stored) (b : Batch) : Type 0 where
  pub count : length (rows_under store b.parts) ≡ b.rows
  pub late : AllFrom b.desc.lower (rows_under store b.parts)

pub holds_of : (store : Stored) (list : List Update) (b : Batch) → BatchHolds store list b → Holds store b
holds_of store list b h =
    let under : rows_under store b.parts ≡ h.0 = part_rows_under store b.parts h.0 h.1 in
    let rows_are = is_batch list b.desc h.0 h.2 in
    record {
      count = ap length under ∙ h.3;
      late = subst (λ (us : List Update). AllFrom b.desc.lower us) (sym (under ∙ rows_are))
          (cons_from b.desc.lower (moved (between (Some b.desc.lower) b.desc.upper list) b.desc.since)
          (moved_from b.desc.lower b.desc.since (between (Some b.desc.lower) b.desc.upper list)
          (between_from b.desc.lower b.desc.upper list)));
    }

not_more : (rows held : ℕ) → held ≤ rows → nat_lt rows held ≡ false
not_more rows held h = grind (arith, nat_tests)

fits : (b : Batch) (held : ℕ) (part : List Update) → held ≤ b.rows → AllFrom b.desc.lower part → is_unfit (row_bound b) held part ≡ false
fits b held part few late = rw (not_more b.rows held few) (none_below b.desc.lower part late)

-- the first parts of the left batch fit
pub left_fits : (store : Stored) (l : Batch) (qs : List PartKey) (n count : ℕ) (rows : List Update) → Holds store l →
    n ≤ length l.parts → rows ≡ rows_under store (take n (l.parts ++ qs)) → is_unfit (row_bound l) (length rows) (drop count rows) ≡ false
left_fits store l qs n count rows h within is =
    let here : rows ≡ rows_under store (take n l.parts) = is ∙ ap (rows_under store) (take_within l.parts qs n within) in
    let few = front_few store n l.parts in
    let same = ap (λ (us : List Update). length us) here in
    let count_is = h.count in
    fits l (length rows) (drop count rows) (omega (arith, few, same, count_is))
    (each_drop (λ u. l.desc.lower ≤ u.time) count rows
    (subst (λ (us : List Update). AllFrom l.desc.lower us) (sym here) (front_from store l.desc.lower n l.parts h.late)))

-- and of the right one
pub right_fits : (store : Stored) (r : Batch) (ks : List PartKey) (n m count left : ℕ) (rows : List Update) → Holds store r →
    n ≡ length ks + m → rows ≡ rows_under store (take n (ks ++ r.parts)) → left ≡ length (rows_under store ks) → left ≤ count →
    is_unfit (row_bound r) (length rows - left) (drop count rows) ≡ false
right_fits store r ks n m count left rows h past is left_is before =
    let here : rows ≡ rows_under store ks ++ rows_under store (take m r.parts) =
    is ∙ ap (rows_under store) (take_past ks r.parts n m past) ∙ under_append store ks (take m r.parts) in
    let few = front_few store m r.parts in
    let same = ap (λ (us : List Update). length us) here in
    let sum = length-append (rows_under store ks) (rows_under store (take m r.parts)) in
    let count_is = h.count in
    fits r (length rows - left) (drop count rows) (omega (arith, few, same, sum, count_is, left_is))
    (subst (λ (us : List Update). AllFrom r.desc.lower (drop count us)) (sym here)
    (each_drop_past (λ u. r.desc.lower ≤ u.time) count (rows_under store ks) (rows_under store (take m r.parts))
    (omega (arith, left_is, before)) (front_from store r.desc.lower m r.parts h.late)))
