-- Complete appends of a feed make what one writer makes.
use Rattle.std.proofs.Common.{◌≡◌, ℕ, ◌+◌, ◌^◌, ◌<◌, ◌≤◌, true, false, Option, Some, None, List, [], ◌∷◌, ◌++◌, inl, inr, refl, sym, ap}
use Rattle.std.proofs.Common.{subst, ◌∙◌, arith, append_assoc, append-nil}
use Rattle.std.specs.Prelude.{◌==◌, nat_lt, nat_le}
use Rattle.std.proofs.lemmas.Bool.Decides.{nat_tests}
use Rattle.update_core.specs.declared.updates.Update.{Update}
use Rattle.update_core.specs.declared.appends.FeedAppend.{FeedAppend}
use Rattle.update_core.specs.Collections.{Collection as PlainCollection, after_append, append_answer, empty_collection, extended}
use Rattle.update_core.specs.Collections.{accepted as append_accepted}
use Rattle.update_core.specs.Frontiers.{covers, is_at}
use Rattle.update_core.specs.Updates.{cons, weight_of}
use Rattle.state_core.proofs.ListLemmas.{bool_cases}
use Rattle.appends_core.specs.Feeds.{FollowOn, end_from, from_upper, rows_of, weight_of_all}
use Rattle.crew_core.specs.Completing.{CompleteFromEmpty, CompleteIsPlain, plain_after}
use Rattle.crew_core.proofs.FeedLaws.{rest_from}

some_is : (a b : ℕ) → Some a ≡ Some b → a ≡ b
some_is a b e = cc

below : (a b : ℕ) → nat_lt a b ≡ true → a < b
below a b h = grind (arith, nat_tests)

apart : (a b : ℕ) → b < a → (a == b) ≡ false
apart a b h = grind (arith, nat_tests)

itself : (a : ℕ) → (a == a) ≡ true
itself a = grind (arith, nat_tests)

within : (a b : ℕ) → a ≤ b → nat_le a b ≡ true
within a b h = grind (arith, nat_tests)

none_end : (xs : List FeedAppend) → FollowOn None xs → end_from None xs ≡ None
none_end [] f = refl
none_end (x ∷ xs) f = absurd (let bad = f.0 in cc)

-- where the last one ends isn't before where the first one begins
end_past : (v w : ℕ) (xs : List FeedAppend) → FollowOn (Some v) xs → end_from (Some v) xs ≡ Some w → v ≤ w
end_past v w [] f e = let h = some_is v w e in omega arith
end_past v w (x ∷ xs) f e = on (λ u g k. end_past u w xs g k) x.upper f.1 f.2 e
  where
    at : v ≡ x.lower
    at = some_is v x.lower f.0

    on : ((u : ℕ) → FollowOn (Some u) xs → end_from (Some u) xs ≡ Some w → u ≤ w) → (u : Option ℕ) → covers u x.lower ≡ true →
        FollowOn u xs → end_from u xs ≡ Some w → v ≤ w
    on older None c g k = absurd (let bad = none_end xs g in cc)
    on older (Some u) c g k = let p = older u g k in let q : x.lower < u = below x.lower u c in let r = at in omega arith

-- nothing begins where the last one ends
pub none_at_end : (u : Option ℕ) (xs : List FeedAppend) → FollowOn u xs → from_upper (end_from u xs) xs ≡ []
none_at_end u [] f = refl
none_at_end u (x ∷ xs) f = rw (not_at x.upper (end_from x.upper xs) refl f.1 f.2) (none_at_end x.upper xs f.2)
  where
    not_at : (v e : Option ℕ) → end_from v xs ≡ e → covers v x.lower ≡ true → FollowOn v xs → is_at e x.lower ≡ false
    not_at v None is c g = refl
    not_at None (Some w) is c g = absurd (let bad = none_end xs g in cc)
    not_at (Some v) (Some w) is c g = let p = end_past v w xs g is in let q : x.lower < v = below x.lower v c in
        apart w x.lower (omega arith)

at_is : (u : Option ℕ) (n : ℕ) → is_at u n ≡ true → u ≡ Some n
at_is None n h = absurd (let bad : false ≡ true = h in cc)
at_is (Some m) n h = ap Some (same m n h)
  where
    same : (a b : ℕ) → (a == b) ≡ true → a ≡ b
    same a b h = grind (arith, nat_tests)

pub follow_from : (w u : Option ℕ) (xs : List FeedAppend) → FollowOn w xs → FollowOn u (from_upper u xs)
follow_from w u [] f = tt
follow_from w u (x ∷ xs) f = elim (bool_cases (is_at u x.lower)) [
  | inl t ↦ rw t (at_is u x.lower t, f.1, f.2)
  | inr t ↦ rw t (follow_from x.upper u xs f.2)
]

abbrev make : List Update → ℕ → Option ℕ → ℕ → PlainCollection
make us since upper weight = record { updates = us; since = since; upper = upper; weight = weight }

alike : (us us2 : List Update) (s s2 : ℕ) (u u2 : Option ℕ) (w w2 : ℕ) → us ≡ us2 → s ≡ s2 → u ≡ u2 → w ≡ w2 →
    make us s u w ≡ make us2 s2 u2 w2
alike us us2 s s2 u u2 w w2 a b c d = cc

accepts : (c : PlainCollection) (lower weight : ℕ) → c.upper ≡ Some lower → c.weight + weight ≤ 2 ^ 62 →
    append_answer c lower weight ≡ append_accepted
accepts c lower weight at light = rw (at, itself lower, within (c.weight + weight) (2 ^ 62) light) refl

-- appends that fit, one after the other
pub plain_is : (c : PlainCollection) (xs : List FeedAppend) → FollowOn c.upper xs → c.weight + weight_of_all xs ≤ 2 ^ 62 →
    plain_after c xs ≡ make (c.updates ++ rows_of xs) c.since (end_from c.upper xs) (c.weight + weight_of_all xs)
plain_is c [] f light = alike c.updates (c.updates ++ []) c.since c.since c.upper c.upper c.weight (c.weight + 0)
    (sym (append-nil c.updates)) refl refl (omega arith)
plain_is c (a ∷ xs) f light =
    let next : PlainCollection = extended c a.rows a.upper (weight_of a.rows) in
    let first : after_append c a.rows a.lower a.upper (weight_of a.rows) ≡ next =
    rw (accepts c a.lower (weight_of a.rows) f.0 (omega arith)) refl in
    ap (λ (d : PlainCollection). plain_after d xs) first ∙ plain_is next xs f.2 (omega arith)
    ∙ alike ((c.updates ++ cons a.rows) ++ rows_of xs) (c.updates ++ (cons a.rows ++ rows_of xs)) c.since c.since
    (end_from a.upper xs) (end_from a.upper xs)
    (c.weight + weight_of a.rows + weight_of_all xs) (c.weight + (weight_of a.rows + weight_of_all xs))
    (append_assoc c.updates (cons a.rows) (rows_of xs)) refl refl (omega arith)

pub complete_law : CompleteIsPlain
complete_law appends c d follows light h whole =
    let rest_is : h.rest ≡ [] =
    sym (rest_from (Some 0) c.upper h.done h.rest appends follows h.split)
    ∙ ap (λ (u : Option ℕ). from_upper u appends) (sym h.upper ∙ whole) ∙ none_at_end (Some 0) appends follows in
    let done_is : from_upper c.upper appends ≡ h.done = h.split ∙ ap (λ (xs : List FeedAppend). h.done ++ xs) rest_is ∙ append-nil h.done in
    let xs : List FeedAppend = from_upper c.upper appends in
    alike d.updates (c.updates ++ rows_of xs) d.since c.since d.upper (end_from c.upper xs) d.weight (c.weight + weight_of_all xs)
    (h.updates ∙ ap (λ (ys : List FeedAppend). c.updates ++ rows_of ys) (sym done_is)) h.since
    (h.upper ∙ ap (end_from c.upper) (sym done_is))
    (h.weight ∙ ap (λ (ys : List FeedAppend). c.weight + weight_of_all ys) (sym done_is))
    ∙ sym (plain_is c xs (follow_from (Some 0) c.upper appends follows) light)

-- all of them begin where the first one does
all_from : (xs : List FeedAppend) → FollowOn (Some 0) xs → from_upper (Some 0) xs ≡ xs
all_from [] f = refl
all_from (x ∷ xs) f = rw (sym (some_is 0 x.lower f.0)) refl

pub empty_law : CompleteFromEmpty
empty_law appends d feed h whole =
    let all : from_upper (Some 0) appends ≡ appends = all_from appends feed.follow in
    complete_law appends empty_collection d feed.follow
    (subst (λ (xs : List FeedAppend). 0 + weight_of_all xs ≤ 2 ^ 62) (sym all) (light (weight_of_all appends) feed.light)) h whole
    ∙ ap (plain_after empty_collection) all
  where
    light : (w : ℕ) → w ≤ 2 ^ 62 → 0 + w ≤ 2 ^ 62
    light w h = omega arith
