-- What a shard must be for a feed's appends.
use Rattle.std.specs.Prelude.{◌≡◌, ℕ, ◌+◌, ◌<◌, ◌≤◌, ◌^◌, Bool, true, false, Option, List, [], ◌∷◌, if◌then◌else◌}
use Rattle.update_core.specs.declared.appends.FeedAppend.{FeedAppend}
use Rattle.update_core.specs.Frontiers.{is_at}
use Rattle.appends_core.specs.Feeds.{from_upper, weight_of_all}
use Rattle.crew_core.specs.Completing.{IsBound}
use Rattle.ingest_run.specs.declared.extents.Extent.{Extent}
use Rattle.ingest_run.specs.declared.faults.IngestFault.{IngestFault}
use Rattle.ingest_run.specs.declared.faults.IngestFault.TheVariants as faults

-- whether one of these appends begins at the frontier
abbrev pub begins_in : Option ℕ → List FeedAppend → Bool
begins_in upper [] = false
begins_in upper (a ∷ more) = if is_at upper a.lower then true else begins_in upper more

-- an append begins at the upper, or the feed ends there, and what is there and the appends from there on weigh no more than a collection may
pub record SuitsFeed (appends : List FeedAppend) (x : Extent) : Type 0 where
  pub bound : IsBound appends x.upper
  pub light : x.weight + weight_of_all (from_upper x.upper appends) ≤ 2 ^ 62

-- why a shard doesn't suit: its upper is neither, or the weights are too much
abbrev pub Unsuited : List FeedAppend → Extent → IngestFault → Type 0
Unsuited appends x (faults.Misfit upper) = (upper ≡ x.upper) × ¬ IsBound appends upper
Unsuited appends x (faults.Heavy weight) =
    (weight ≡ x.weight) × IsBound appends x.upper × (2 ^ 62 < weight + weight_of_all (from_upper x.upper appends))
Unsuited appends x _ = ⊥
