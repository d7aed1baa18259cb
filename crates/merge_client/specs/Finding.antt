-- Which pair of batches is due in a state, and what was got of it.
use Rattle.std.specs.Prelude.{ℕ, ◌≡◌, Option, Some, None, List, ◌++◌}
use Rattle.std.specs.List.{slice_get}
use Rattle.std.specs.Option.{option_map}
use Rattle.update_core.specs.declared.updates.Update.{Update}
use Rattle.spine_core.specs.declared.batches.Batch.{Batch}
use Rattle.spine_core.specs.Settled.{due_place, weights_of, with_next}
use Rattle.store_core.specs.declared.shards.ShardId.{ShardId}
use Rattle.store_core.specs.Stores.{Stored}
use Rattle.state_core.specs.declared.kinds.Kind.TheVariants.{Keeper}
use Rattle.state_core.specs.Refusals.{is_keeper}
use Rattle.state_core.specs.States.{ShardState}
use Rattle.history_core.specs.Legal.{Absent, AtLast, HasMember}
use Rattle.history_core.specs.Placing.{AtLastScan, Placed}
use Rattle.read_machine.specs.declared.looks.Look.{Look}
use Rattle.read_machine.specs.declared.looks.Look.TheVariants as looks
use Rattle.read_machine.specs.Questions.{Questions}
use Rattle.merge_client.specs.declared.dues.Due.{Due}
use Rattle.merge_client.specs.declared.founds.Found.{Found}
use Rattle.merge_client.specs.declared.founds.Found.TheVariants as founds
use Rattle.merge_client.specs.declared.pairs.Pair.{Pair}

-- ---- what a state says

-- the parts of two batches, where both are there
abbrev pub look_at : ShardState → Option Batch → Option Batch → Look Found
look_at s (Some left) (Some right) = looks.Parts (left.parts ++ right.parts)
look_at s (Some left) None = looks.Answer (founds.Nothing s.number)
look_at s None right = looks.Answer (founds.Nothing s.number)

-- those at the places that are due
abbrev pub look_by : ShardState → Option (ℕ × ℕ) → Look Found
look_by s None = looks.Answer (founds.Nothing s.number)
look_by s (Some places) = look_at s (slice_get s.batches places.0) (slice_get s.batches places.1)

-- the two batches with these rows, where both are there
abbrev pub found_at : ShardState → List Update → Option Batch → Option Batch → Found
found_at s rows (Some left) (Some right) = founds.Due (record { left = left; right = right; since = s.since; rows = rows })
found_at s rows (Some left) None = founds.Nothing s.number
found_at s rows None right = founds.Nothing s.number

abbrev pub found_by : ShardState → List Update → Option (ℕ × ℕ) → Found
found_by s rows None = founds.Nothing s.number
found_by s rows (Some places) = found_at s rows (slice_get s.batches places.0) (slice_get s.batches places.1)

-- the leftmost place whose batch is due to be merged with the next, and that one
abbrev pub places_in : ShardState → Option (ℕ × ℕ)
places_in s = option_map with_next (due_place (weights_of s.batches))

-- ---- when an answer is legal

-- the pair was due in this state
abbrev pub IsDueIn : Pair → ShardState → Type 0
IsDueIn p s = found_by s p.rows (places_in s) ≡ founds.Due p

-- none was due, or this pair, in the last version at the last Scan, where the member stands; or it doesn't
abbrev pub FoundLegal : ShardId → ℕ → Stored → List Placed → Found → Type 0
FoundLegal shard member start ps (founds.Nothing version) =
    AtLastScan shard (AtLast start shard (λ n s. (n ≡ version) × HasMember member s × (places_in s ≡ None))) ps
FoundLegal shard member start ps (founds.Due p) = AtLastScan shard (AtLast start shard (λ n s. HasMember member s × IsDueIn
    p s)) ps
FoundLegal shard member start ps (founds.Gone version) = Absent start shard member version ps

-- which pair is due, as a question
abbrev pub finding : Questions Due Found
finding = record {
  kind = Keeper;
  takes = is_keeper;
  look = λ q s. look_by s (places_in s);
  answer = λ q s rows. found_by s rows (places_in s);
  expired = λ q version. founds.Gone version;
  Legal = λ q shard member start ps list found. FoundLegal shard member start ps found;
}
