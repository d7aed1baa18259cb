-- What the competing appends of a feed come to once they are complete. docs/DEFINITIONS.md, "Crews".
use Rattle.std.specs.Prelude.{◌≡◌, ◌⊎◌, ℕ, ◌+◌, ◌≤◌, ◌^◌, Option, Some, List, [], ◌∷◌}
use Rattle.update_core.specs.Limits.{max_weight}
use Rattle.update_core.specs.declared.appends.FeedAppend.{FeedAppend}
use Rattle.update_core.specs.Collections.{Collection as PlainCollection, after_append, empty_collection}
use Rattle.update_core.specs.Updates.{weight_of}
use Rattle.state_core.specs.Lists.{Among}
use Rattle.crew_core.specs.Competing.{HasAppended}
use Rattle.appends_core.specs.Feeds.{IsFeed, FollowOn, end_of_feed, from_upper, weight_of_all}

-- the plain collection after these appends, as one writer makes them in order
abbrev pub plain_after : PlainCollection → List FeedAppend → PlainCollection
plain_after c [] = c
plain_after c (a ∷ more) = plain_after (after_append c a.rows a.lower a.upper (weight_of a.rows)) more

-- the frontier is where one of these appends begins, or where they end
abbrev pub IsBound : List FeedAppend → Option ℕ → Type 0
IsBound appends upper = (upper ≡ end_of_feed appends) ⊎ ((a : FeedAppend) × Among (λ x. x ≡ a) appends × (upper ≡ Some a.lower))

-- ---- laws

-- Once the upper is where the feed ends, and the weights fit, the collection is the one that one writer alone makes: the plain one
-- after the feed's appends from the first upper on.
abbrev pub CompleteIsPlain : Type 0
CompleteIsPlain =
    (appends : List FeedAppend) (c d : PlainCollection) → FollowOn (Some 0) appends →
    c.weight + weight_of_all (from_upper c.upper appends) ≤ max_weight → HasAppended appends c d → d.upper ≡ end_of_feed appends →
    d ≡ plain_after c (from_upper c.upper appends)

-- from the empty collection it is the plain one after all appends of the feed
abbrev pub CompleteFromEmpty : Type 0
CompleteFromEmpty =
    (appends : List FeedAppend) (d : PlainCollection) → IsFeed appends → HasAppended appends empty_collection d →
    d.upper ≡ end_of_feed appends → d ≡ plain_after empty_collection appends

-- While nothing but appends of the feed comes, the upper stays a bound of the feed: so no worker meets one that suits none of them.
abbrev pub BoundStays : Type 0
BoundStays =
    (appends : List FeedAppend) (c d : PlainCollection) → FollowOn (Some 0) appends → HasAppended appends c d →
    IsBound appends c.upper → IsBound appends d.upper
