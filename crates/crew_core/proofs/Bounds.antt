-- The upper stays a bound of the feed.
use Rattle.std.proofs.Common.{◌≡◌, ℕ, Option, Some, List, [], ◌∷◌, ◌++◌, inl, inr, refl, sym, ap, subst, ◌∙◌, append-nil}
use Rattle.update_core.specs.declared.appends.FeedAppend.{FeedAppend}
use Rattle.update_core.specs.Frontiers.{is_at}
use Rattle.state_core.specs.Lists.{Among}
use Rattle.state_core.proofs.ListLemmas.{bool_cases}
use Rattle.appends_core.specs.Feeds.{FollowOn, end_from, end_of_feed, from_upper}
use Rattle.crew_core.specs.Completing.{BoundStays, IsBound}
use Rattle.crew_core.proofs.FeedLaws.{found_at}
use Rattle.crew_core.proofs.Completing.{follow_from, none_at_end}

both_nil : (xs ys : List FeedAppend) → [] ≡ xs ++ ys → xs ≡ []
both_nil [] ys e = refl
both_nil (x ∷ xs) ys e = absurd (let bad : [] ≡ x ∷ (xs ++ ys) = e in cc)

-- those from a frontier on end where all end
end_same : (w u : Option ℕ) (y : FeedAppend) (xs ys : List FeedAppend) → from_upper u xs ≡ y ∷ ys → end_from y.upper ys ≡ end_from w xs
end_same w u y [] ys e = absurd (let bad : [] ≡ y ∷ ys = e in cc)
end_same w u y (x ∷ xs) ys e = elim (bool_cases (is_at u x.lower)) [
  | inl t ↦ here (rw t at e)
  | inr t ↦ end_same x.upper u y xs ys (rw t at e)
]
  where
    here : x ∷ xs ≡ y ∷ ys → end_from y.upper ys ≡ end_from x.upper xs
    here k = ap (λ (zs : List FeedAppend). end_from w zs) (sym k)

among_tail : (u : Option ℕ) (a : FeedAppend) (xs : List FeedAppend) → Among (λ x. x ≡ a) (from_upper u xs) → Among (λ x. x ≡ a) xs
among_tail u a [] h = h
among_tail u a (x ∷ xs) h = elim (bool_cases (is_at u x.lower)) [
  | inl t ↦ rw t at h
  | inr t ↦ inr (among_tail u a xs (rw t at h))
]

among_second : (a : FeedAppend) (xs ys : List FeedAppend) → Among (λ x. x ≡ a) ys → Among (λ x. x ≡ a) (xs ++ ys)
among_second a [] ys h = h
among_second a (x ∷ xs) ys h = inr (among_second a xs ys h)

-- what follows the first few begins where they end
next_begins : (u : Option ℕ) (done rest : List FeedAppend) (r : FeedAppend) → FollowOn u (done ++ r ∷ rest) → end_from u done ≡ Some r.lower
next_begins u [] rest r f = f.0
next_begins u (d ∷ done) rest r f = next_begins d.upper done rest r f.2

pub bound_law : BoundStays
bound_law appends c d follows h (inl at_end) =
    let none : from_upper c.upper appends ≡ [] =
    ap (λ (u : Option ℕ). from_upper u appends) at_end ∙ none_at_end (Some 0) appends follows in
    let done : h.done ≡ [] = both_nil h.done h.rest (sym none ∙ h.split) in
    inl (h.upper ∙ ap (end_from c.upper) done ∙ at_end)
bound_law appends c d follows h (inr (a, among, at)) = by h.rest refl
  where
    follow : FollowOn c.upper (h.done ++ h.rest)
    follow = subst (FollowOn c.upper) h.split (follow_from (Some 0) c.upper appends follows)

    ends : (xs : List FeedAppend) → from_upper c.upper appends ≡ xs → (y : FeedAppend) (ys : List FeedAppend) → xs ≡ y ∷ ys →
        end_from c.upper xs ≡ end_of_feed appends
    ends xs e y ys k = ap (end_from c.upper) k ∙ end_same (Some 0) c.upper y appends ys (e ∙ k)

    by : (rest : List FeedAppend) → h.rest ≡ rest → IsBound appends d.upper
    by [] e =
        let all : from_upper c.upper appends ≡ h.done = h.split ∙ ap (λ (xs : List FeedAppend). h.done ++ xs) e ∙ append-nil h.done in
        let found = found_at (Some 0) a appends follows among in
        let begins : h.done ≡ a ∷ found.0 = sym all ∙ ap (λ (u : Option ℕ). from_upper u appends) at ∙ found.1 in
        inl (h.upper ∙ ends h.done all a found.0 begins)
    by (r ∷ rest) e =
        let f = subst (λ (xs : List FeedAppend). FollowOn c.upper (h.done ++ xs)) e follow in
        let there : Among (λ x. x ≡ r) (from_upper c.upper appends) =
        subst (Among (λ (x : FeedAppend). x ≡ r)) (sym (h.split ∙ ap (λ (xs : List FeedAppend). h.done ++ xs) e))
        (among_second r h.done (r ∷ rest) (inl refl)) in
        inr (r, among_tail c.upper r appends there, h.upper ∙ next_begins c.upper h.done rest r f)
