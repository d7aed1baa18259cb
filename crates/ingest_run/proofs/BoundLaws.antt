-- Where a feed's appends begin, and what they weigh from there on.
use Rattle.std.proofs.Common.{◌≡◌, ℕ, ◌+◌, ◌≤◌, ◌^◌, Bool, true, false, Option, Some, None, List, [], ◌∷◌, ◌<◌, length, drop, slice_index_or, inl, inr, refl, sym, ap, subst, ◌∙◌, arith}
use Rattle.std.specs.Prelude.{◌↔◌, ◌==◌, IsTrue, if◌then◌else◌}
use Rattle.std.proofs.lemmas.Bool.Decides.{nat_tests}
use Rattle.std.proofs.lemmas.List.{drop_more}
use Rattle.update_core.specs.declared.appends.FeedAppend.{FeedAppend}
use Rattle.update_core.specs.Frontiers.{is_at}
use Rattle.update_core.specs.Updates.{weight_of}
use Rattle.state_core.specs.Lists.{Among}
use Rattle.state_core.proofs.ListLemmas.{bool_cases}
use Rattle.appends_core.specs.Feeds.{end_of_feed, from_upper, weight_of_all}
use Rattle.crew_core.specs.Completing.{IsBound}
use Rattle.ingest_run.specs.Bounds.{begins_in}

at_is : (u : Option ℕ) (n : ℕ) → is_at u n ≡ true → u ≡ Some n
at_is None n h = absurd (let bad : false ≡ true = h in cc)
at_is (Some m) n h = ap Some (same m n h)
  where
    same : (a b : ℕ) → (a == b) ≡ true → a ≡ b
    same a b h = grind (arith, nat_tests)

is_there : (u : Option ℕ) (n : ℕ) → u ≡ Some n → is_at u n ≡ true
is_there u n is = subst (λ (w : Option ℕ). is_at w n ≡ true) (sym is) (itself n)
  where
    itself : (n : ℕ) → is_at (Some n) n ≡ true
    itself n = grind (arith, nat_tests)

-- an append begins at the frontier
abbrev pub BeginsThere : Option ℕ → List FeedAppend → Type 0
BeginsThere u xs = (a : FeedAppend) × Among (λ x. x ≡ a) xs × (u ≡ Some a.lower)

begins_there : (u : Option ℕ) (xs : List FeedAppend) → begins_in u xs ≡ true → BeginsThere u xs
begins_there u [] h = absurd (let bad : false ≡ true = h in cc)
begins_there u (x ∷ xs) h = elim (bool_cases (is_at u x.lower)) [
  | inl t ↦ (x, inl refl, at_is u x.lower t)
  | inr t ↦ let (a, among, is) = begins_there u xs (rw t at h) in (a, inr among, is)
]

there_begins : (u : Option ℕ) (xs : List FeedAppend) → BeginsThere u xs → begins_in u xs ≡ true
there_begins u [] (a, among, is) = absurd among
there_begins u (x ∷ xs) (a, inl same, is) =
    rw (is_there u x.lower (is ∙ ap (λ (y : FeedAppend). Some y.lower) (sym same))) refl
there_begins u (x ∷ xs) (a, inr among, is) = elim (bool_cases (is_at u x.lower)) [
  | inl t ↦ rw t refl
  | inr t ↦ rw t (there_begins u xs (a, among, is))
]

-- where the feed doesn't end there, it is a bound exactly where an append begins there
pub bound_by : (b same : Bool) (u : Option ℕ) (xs : List FeedAppend) → b ≡ begins_in u xs → (IsTrue same ↔ (u ≡ end_of_feed xs)) →
    same ≡ false → IsTrue b ↔ IsBound xs u
bound_by b same u xs is tells off = (
  λ h. inr (begins_there u xs (sym is ∙ h)),
  λ bound. by bound,
)
  where
    by : IsBound xs u → b ≡ true
    by (inl at_end) = absurd (let bad : false ≡ true = sym off ∙ tells.1 at_end in cc)
    by (inr there) = is ∙ there_begins u xs there

-- ---- weights

-- the weights that are still to be counted
abbrev pub left_from : Bool → Option ℕ → List FeedAppend → ℕ
left_from true u xs = weight_of_all xs
left_from false u xs = weight_of_all (from_upper u xs)

pub left_step : (begun : Bool) (u : Option ℕ) (x : FeedAppend) (xs : List FeedAppend) (counts : Bool) (added : ℕ) →
    counts ≡ (if begun then true else is_at u x.lower) → added ≡ (if counts then weight_of x.rows else 0) →
    added + left_from counts u xs ≡ left_from begun u (x ∷ xs)
left_step true u x xs counts added is much =
    subst (λ (b : Bool). added + left_from b u xs ≡ weight_of x.rows + weight_of_all xs) (sym is)
    (let n : added ≡ weight_of x.rows = (rw is at much) in ap (λ (k : ℕ). k + weight_of_all xs) n)
left_step false u x xs counts added is much = elim (bool_cases (is_at u x.lower)) [
  | inl t ↦
      let on : counts ≡ true = is ∙ t in
      let n : added ≡ weight_of x.rows = (rw on at much) in
      rw (on, t) (ap (λ (k : ℕ). k + weight_of_all xs) n)
  | inr t ↦
      let off : counts ≡ false = is ∙ t in
      let n : added ≡ 0 = (rw off at much) in
      rw (off, t) (omega (arith, n))
]

-- they are no more than all
pub from_less : (u : Option ℕ) (xs : List FeedAppend) → weight_of_all (from_upper u xs) ≤ weight_of_all xs
from_less u [] = omega arith
from_less u (x ∷ xs) = elim (bool_cases (is_at u x.lower)) [
  | inl t ↦ rw t (omega arith)
  | inr t ↦ let less = from_less u xs in rw t (omega (arith, less))
]

-- so a sum of the first of them is no more either
pub sum_all : (begun : Bool) (u : Option ℕ) (xs : List FeedAppend) (i sum : ℕ) →
    sum + left_from begun u (drop i xs) ≡ weight_of_all (from_upper u xs) → weight_of_all xs ≤ 2 ^ 62 → sum ≤ 2 ^ 62
sum_all begun u xs i sum is light = let less = from_less u xs in omega (arith, is, light, less)

-- nor with the next one
pub added_small : (begun : Bool) (u : Option ℕ) (xs : List FeedAppend) (i : ℕ) (x : FeedAppend) (counts : Bool) (added sum : ℕ) →
    i < length xs → x ≡ slice_index_or xs i x → counts ≡ (if begun then true else is_at u x.lower) →
    added ≡ (if counts then weight_of x.rows else 0) → sum + left_from begun u (drop i xs) ≡ weight_of_all (from_upper u xs) →
    weight_of_all xs ≤ 2 ^ 62 → sum + added ≤ 2 ^ 62
added_small begun u xs i x counts added sum lt at is much so_far light =
    let next : drop i xs ≡ x ∷ drop (i + 1) xs = drop_more xs i x lt ∙ ap (λ (y : FeedAppend). y ∷ drop (i + 1) xs) (sym at) in
    let left : left_from begun u (drop i xs) ≡ left_from begun u (x ∷ drop (i + 1) xs) = ap (left_from begun u) next in
    let step = left_step begun u x (drop (i + 1) xs) counts added is much in
    let less = from_less u xs in
    omega (arith, left, step, so_far, light, less)
