-- The appends of a feed, which follow on one another. docs/DEFINITIONS.md, "Feeds of appends".
use Rattle.std.specs.Prelude.{◌≡◌, ⊤, ℕ, ◌+◌, ◌≤◌, ◌^◌, true, Option, Some, List, [], ◌∷◌, ◌++◌, length, if◌then◌else◌}
use Rattle.std.specs.List.{AllByRecursion}
use Rattle.update_core.specs.Limits.{max_rows, max_weight}
use Rattle.update_core.specs.declared.updates.Update.{Update}
use Rattle.update_core.specs.declared.appends.FeedAppend.{FeedAppend}
use Rattle.update_core.specs.Frontiers.{covers, is_at}
use Rattle.update_core.specs.Updates.{between, cons, weight_of}

-- each begins where the one before it ended, the first at this frontier, and ends later
abbrev pub FollowOn : Option ℕ → List FeedAppend → Type 0
FollowOn upper [] = ⊤
FollowOn upper (a ∷ more) = (upper ≡ Some a.lower) × (covers a.upper a.lower ≡ true) × FollowOn a.upper more

-- where the last one ends, if the first begins at this frontier
abbrev pub end_from : Option ℕ → List FeedAppend → Option ℕ
end_from upper [] = upper
end_from upper (a ∷ more) = end_from a.upper more

-- the appends from the one on that begins at this frontier; none where none does
abbrev pub from_upper : Option ℕ → List FeedAppend → List FeedAppend
from_upper upper [] = []
from_upper upper (a ∷ more) = if is_at upper a.lower then a ∷ more else from_upper upper more

-- the rows of all, each append's consolidated
abbrev pub rows_of : List FeedAppend → List Update
rows_of [] = []
rows_of (a ∷ more) = cons a.rows ++ rows_of more

-- the weights of all, each append's that of its rows as handed in
abbrev pub weight_of_all : List FeedAppend → ℕ
weight_of_all [] = 0
weight_of_all (a ∷ more) = weight_of a.rows + weight_of_all more

-- a row's time is in the range
abbrev pub IsWithin : ℕ → Option ℕ → Update → Type 0
IsWithin lower upper u = (lower ≤ u.time) × (covers upper u.time ≡ true)

-- an append has its rows in its range, and no more than one append may have
pub record IsFit (a : FeedAppend) : Type 0 where
  pub in_range : between (Some a.lower) a.upper a.rows ≡ a.rows
  pub few : length a.rows ≤ max_rows

-- the appends are those of a feed: they follow on from 0, each is fit, and together they weigh no more than a collection may
pub record IsFeed (appends : List FeedAppend) : Type 0 where
  pub follow : FollowOn (Some 0) appends
  pub fit : AllByRecursion IsFit appends
  pub light : weight_of_all appends ≤ max_weight

-- where a feed ends
abbrev pub end_of_feed : List FeedAppend → Option ℕ
end_of_feed appends = end_from (Some 0) appends

-- an append begins at this frontier, ends later, is fit, and weighs no more than this
pub record MayFollow (upper : Option ℕ) (left : ℕ) (a : FeedAppend) : Type 0 where
  pub begins : upper ≡ Some a.lower
  pub later : covers a.upper a.lower ≡ true
  pub fit : IsFit a
  pub light : weight_of a.rows ≤ left
