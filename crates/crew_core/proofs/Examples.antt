-- A feed of three appends at work, by computation.
use Rattle.std.proofs.Common.{◌≡◌, ℕ, ◌+◌, ℤ, pos, negsuc, Some, None, List, [], ◌∷◌, ◌++◌, inl, inr, refl, sym, ap, ◌∙◌, arith}
use Rattle.std.specs.Prelude.{codes}
use Rattle.update_core.specs.declared.updates.Update.{Update}
use Rattle.update_core.specs.declared.appends.FeedAppend.{FeedAppend}
use Rattle.update_core.specs.Collections.{Collection, empty_collection}
use Rattle.update_core.specs.Totals.{consolidated}
use Rattle.crew_core.specs.Competing.{HasAppended}
use Rattle.crew_core.specs.Completing.{IsBound, plain_after}
use Rattle.appends_core.specs.Feeds.{IsFit, IsFeed, end_of_feed, from_upper, weight_of_all}

abbrev update : List ℕ → ℕ → ℤ → Update
update datum time diff = record { datum = datum; time = time; diff = diff }

-- an apple from 3 on, twice a pear from 12 on, no apple any more from 25 on
abbrev apple : FeedAppend
apple = record { lower = 0; upper = Some 10; rows = update (codes "apple") 3 (pos 1) ∷ [] }

abbrev pears : FeedAppend
pears = record { lower = 10; upper = Some 20; rows = update (codes "pear") 12 (pos 1) ∷ update (codes "pear") 12 (pos 1) ∷ [] }

abbrev no_apple : FeedAppend
no_apple = record { lower = 20; upper = None; rows = update (codes "apple") 25 (negsuc 0) ∷ [] }

abbrev fruit : List FeedAppend
fruit = apple ∷ pears ∷ no_apple ∷ []

apple_is_fit : IsFit apple
apple_is_fit = record { in_range = refl; few = omega arith }

pears_are_fit : IsFit pears
pears_are_fit = record { in_range = refl; few = omega arith }

no_apple_is_fit : IsFit no_apple
no_apple_is_fit = record { in_range = refl; few = omega arith }

fruit_makes_a_feed : IsFeed fruit
fruit_makes_a_feed = record {
  follow = (refl, refl, (refl, refl, (refl, refl, tt)));
  fit = (apple_is_fit, (pears_are_fit, (no_apple_is_fit, tt)));
  light = omega arith;
}

fruit_ends_closed : end_of_feed fruit ≡ None
fruit_ends_closed = refl

fruit_from_10 : from_upper (Some 10) fruit ≡ pears ∷ no_apple ∷ []
fruit_from_10 = refl

-- no append begins at 5, and none where all end
fruit_from_5 : from_upper (Some 5) fruit ≡ []
fruit_from_5 = refl

fruit_from_its_end : from_upper None fruit ≡ []
fruit_from_its_end = refl

-- another worker has committed the apple
abbrev others : Collection
others = plain_after empty_collection (apple ∷ [])

-- and this one the pears, which follow on from where the upper then is
abbrev both : Collection
both = plain_after others (pears ∷ [])

both_updates : both.updates ≡ update (codes "apple") 3 (pos 1) ∷ update (codes "pear") 12 (pos 2) ∷ []
unfolding consolidated
both_updates = refl

both_weight : both.weight ≡ 3
both_weight = refl

-- so past the other's collection there is one more append of the feed, and past the empty one there are two
one_more : HasAppended fruit others both
unfolding consolidated
one_more = record {
  done = pears ∷ [];
  rest = no_apple ∷ [];
  split = refl;
  updates = refl;
  upper = refl;
  weight = refl;
  since = refl;
}

first_two : HasAppended fruit empty_collection both
unfolding consolidated
first_two = record {
  done = apple ∷ pears ∷ [];
  rest = no_apple ∷ [];
  split = refl;
  updates = refl;
  upper = refl;
  weight = refl;
  since = refl;
}

-- at 20 the last append begins; 15 suits none
both_at_a_bound : IsBound fruit both.upper
both_at_a_bound = inr (no_apple, inr (inr (inl refl)), refl)

-- the pears alone, with the apple skipped, are no first few of the feed's appends
abbrev skipped : Collection
skipped = record { updates = update (codes "pear") 12 (pos 2) ∷ []; since = 0; upper = Some 20; weight = 2 }

none_is_skipped : HasAppended fruit empty_collection skipped → ⊥
none_is_skipped h = by h.done h.rest h.split (h.weight ∙ from_none (weight_of_all h.done))
  where
    from_none : (w : ℕ) → 0 + w ≡ w
    from_none w = omega arith

    heavier : (w : ℕ) → 2 ≡ 1 + (2 + w) → ⊥
    heavier w h = omega arith

    with_first : (a : FeedAppend) (done : List FeedAppend) → apple ≡ a → weight_of_all (a ∷ done) ≡ weight_of_all (apple ∷ done)
    with_first a done is = ap (λ (x : FeedAppend). weight_of_all (x ∷ done)) (sym is)

    with_second : (b : FeedAppend) (done : List FeedAppend) → pears ≡ b →
        weight_of_all (apple ∷ b ∷ done) ≡ weight_of_all (apple ∷ pears ∷ done)
    with_second b done is = ap (λ (x : FeedAppend). weight_of_all (apple ∷ x ∷ done)) (sym is)

    by : (done rest : List FeedAppend) → fruit ≡ done ++ rest → 2 ≡ weight_of_all done → ⊥
    by [] rest split weight = cc
    by (a ∷ []) rest split weight =
        let first : apple ≡ a = cc in
        let w : 2 ≡ weight_of_all (apple ∷ []) = weight ∙ with_first a [] first in
        cc
    by (a ∷ b ∷ done) rest split weight =
        let first : apple ≡ a = cc in
        let second : pears ≡ b = cc in
        heavier (weight_of_all done) (weight ∙ with_first a (b ∷ done) first ∙ with_second b done second)

-- with the last append it is complete: what one writer makes of the feed
complete_updates : (plain_after both (no_apple ∷ [])).updates ≡
    update (codes "apple") 3 (pos 1) ∷ update (codes "pear") 12 (pos 2) ∷ update (codes "apple") 25 (negsuc 0) ∷ []
unfolding consolidated
complete_updates = refl

complete_upper : (plain_after both (no_apple ∷ [])).upper ≡ None
complete_upper = refl

complete_is_one_writers : plain_after both (no_apple ∷ []) ≡ plain_after empty_collection fruit
complete_is_one_writers = refl
