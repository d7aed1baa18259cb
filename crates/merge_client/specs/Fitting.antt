-- What a part that was got says against its batch.
use Rattle.std.specs.Prelude.{ℕ, Bool, false, true, if◌then◌else◌, nat_le, nat_lt, ◌-◌, Option, Some, None, List, [], ◌∷◌, length, drop}
use Rattle.std.specs.List.{slice_get}
use Rattle.update_core.specs.declared.updates.Update.{Update}
use Rattle.spine_core.specs.declared.batches.Batch.{Batch}
use Rattle.store_core.specs.declared.part_keys.PartKey.{PartKey}
use Rattle.state_core.specs.States.{ShardState}
use Rattle.load_core.specs.declared.gettings.Getting.{Getting}
use Rattle.read_machine.specs.declared.courses.Course.{Course}
use Rattle.read_machine.specs.declared.stages.Stage.{Stage}
use Rattle.read_machine.specs.declared.stages.Stage.TheVariants as stages
use Rattle.merge_client.specs.declared.pair_bounds.PairBound.{PairBound}
use Rattle.merge_client.specs.declared.row_bounds.RowBound.{RowBound}
use Rattle.merge_client.specs.Finding.{places_in}

-- ---- what batches say

abbrev pub row_bound : Batch → RowBound
row_bound b = record { lower = b.desc.lower; rows = b.rows }

-- of two, where both are there
abbrev pub bound_of : Option Batch → Option Batch → Option PairBound
bound_of (Some left) (Some right) = Some (record { left = row_bound left; parts = length left.parts; right = row_bound right })
bound_of (Some left) None = None
bound_of None right = None

abbrev pub bound_by : ShardState → Option (ℕ × ℕ) → Option PairBound
bound_by s None = None
bound_by s (Some places) = bound_of (slice_get s.batches places.0) (slice_get s.batches places.1)

-- of the pair that is due
abbrev pub bound_in : Option ShardState → Option PairBound
bound_in None = None
bound_in (Some s) = bound_by s (places_in s)

-- while its parts are got
abbrev pub bound_at : Course → Stage → Option PairBound
bound_at c stages.Get = bound_in c.loader.cached
bound_at c _ = None

-- ---- what a part says

-- a row lies below the time
abbrev pub lies_below : ℕ → List Update → Bool
lies_below lower [] = false
lies_below lower (u ∷ us) = if nat_lt u.time lower then true else lies_below lower us

-- A part with these rows, with which a batch's parts hold so many, doesn't fit the batch: they are more than it says, or one lies
-- below its lower.
abbrev pub is_unfit : RowBound → ℕ → List Update → Bool
is_unfit b held part = if nat_lt b.rows held then true else lies_below b.lower part

-- As long as no part of the right batch is got, all rows are the left one's. Then the left one's are as many as before.
abbrev pub noted_rows : PairBound → Getting → ℕ → ℕ
noted_rows b g before = if nat_le g.place b.parts then length g.rows else before

-- The part at this place, before which so many rows were got, doesn't fit its batch. So many of them are the left one's.
abbrev pub is_unfit_at : PairBound → ℕ → ℕ → ℕ → Getting → Bool
is_unfit_at b left_rows place count g =
    if nat_lt place b.parts then is_unfit b.left (length g.rows) (drop count g.rows)
    else is_unfit b.right (length g.rows - left_rows) (drop count g.rows)

-- its key
abbrev pub unfit_key : PairBound → ℕ → ℕ → ℕ → Getting → Option PartKey
unfit_key b left_rows place count g = if is_unfit_at b left_rows place count g then slice_get g.keys place else None

-- and where it is got
abbrev pub misfit_of : PairBound → ℕ → ℕ → ℕ → Getting → Option PartKey
misfit_of b left_rows place count g = if nat_lt place g.place then unfit_key b left_rows place count g else None

abbrev pub misfit_by : Option PairBound → ℕ → ℕ → ℕ → Getting → Option PartKey
misfit_by None left_rows place count g = None
misfit_by (Some b) left_rows place count g = misfit_of b left_rows place count g

abbrev pub noted_by : Option PairBound → Getting → ℕ → ℕ
noted_by None g before = before
noted_by (Some b) g before = noted_rows b g before
