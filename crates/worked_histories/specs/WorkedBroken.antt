-- Histories that break the discipline with their last call, each another rule of it.
use Rattle.std.specs.Prelude.{ℕ, pos, List, [], ◌∷◌, Some, None}
use Rattle.update_core.specs.declared.updates.Update.{Update}
use Rattle.store_core.specs.declared.calls.Call.TheVariants.{Cas, Truncate, Set, Delete}
use Rattle.store_core.specs.Histories.{History, with_entry}
use Rattle.spine_core.specs.declared.batches.Batch.{Batch}
use Rattle.part_codec.specs.Parts.{spelling}
use Rattle.state_core.specs.declared.transitions.Transition.{Transition}
use Rattle.state_core.specs.declared.transitions.Transition.TheVariants.{Append, Merge}
use Rattle.state_core.specs.States.{ShardState}
use Rattle.version_codec.specs.Versions.{version_spelling}
use Rattle.worked_histories.specs.Worked.{the_shard, key, writer, keeper, reader, batch, early_batch, late_batch, early_row}
use Rattle.worked_histories.specs.Worked.{late_row, early_part, late_part, merged_part, state4, state5, step4, version1}
use Rattle.worked_histories.specs.Worked.{version2, version4, version7}
use Rattle.worked_histories.specs.WorkedTrail.{did, first_calls_and}

-- ---- calls that aren't allowed after so many calls of the worked history

-- the first version is one that only another version can come before
abbrev pub first_not_init : History
first_not_init = first_calls_and 0 0 (Cas the_shard None version1)

-- the keeper joins at a version that it never saw
abbrev pub cas_unseen : History
cas_unseen = first_calls_and 2 1 (Cas the_shard (Some 1) version2)

-- the writer appends a part that it never stored
abbrev pub append_unstored : History
append_unstored = first_calls_and 7 0 (Cas the_shard (Some 3) version4)

-- the writer sets other bytes under a key
abbrev pub set_other_bytes : History
set_other_bytes = first_calls_and 8 0 (Set (key 0 1) late_part)

-- the writer sets a key again after its append
abbrev pub set_after_cas : History
set_after_cas = first_calls_and 9 0 (Set (key 0 1) early_part)

-- the reader deletes a key while its own hold lies below the merge
abbrev pub delete_above_floor : History
delete_above_floor = first_calls_and 17 2 (Delete (key 0 1))

-- the keeper makes the reader leave
abbrev pub cas_for_another : History
cas_for_another = first_calls_and 17 1 (Cas the_shard (Some 6) version7)

-- client 2 deletes a key that no version took
abbrev pub delete_untaken : History
delete_untaken = first_calls_and 21 2 (Delete (key 1 1))

-- client 2 truncates before it has deleted the second key
abbrev pub truncate_before_deletes : History
truncate_before_deletes = first_calls_and 22 2 (Truncate the_shard 8)

-- client 2 truncates past the floor
abbrev pub truncate_past_floor : History
truncate_past_floor = first_calls_and 23 2 (Truncate the_shard 9)

-- ---- versions and parts of broken histories

-- a state without the reader, said to come of the first append
abbrev pub forgetful_state : ShardState
forgetful_state = record state4 { members = writer 1 ∷ keeper 2 0 0 ∷ [] }

unfoldable pub forgetful_version : List ℕ
forgetful_version = version_spelling forgetful_state step4

-- an append of one row to a range, of no more than this weight
abbrev pub one_row_to : ℕ → ℕ → Transition
one_row_to upper weight = Append 0 1 0 (Some upper) (key 0 1 ∷ []) 1 weight

-- the state that it makes
abbrev pub one_row_state : ℕ → ℕ → ShardState
one_row_state upper weight = record state4 { upper = Some upper; weight = weight; batches = batch 0 upper (key 0 1) 1 ∷ [] }

-- an append that ends where its row begins
unfoldable pub short_version : List ℕ
short_version = version_spelling (one_row_state 1 1) (one_row_to 1 1)

-- an append of one row, to be of a part with two
unfoldable pub few_version : List ℕ
few_version = version_spelling (one_row_state 10 2) (one_row_to 10 2)

-- an append of two rows, to be of a part that is none since its rows fall
abbrev pub two_rows : Transition
two_rows = Append 0 1 0 (Some 10) (key 0 1 ∷ []) 2 2

abbrev pub two_rows_state : ShardState
two_rows_state = record state4 { upper = Some 10; weight = 2; batches = batch 0 10 (key 0 1) 2 ∷ [] }

unfoldable pub two_rows_version : List ℕ
two_rows_version = version_spelling two_rows_state two_rows

unfoldable pub falling_part : List ℕ
falling_part = spelling (late_row ∷ early_row ∷ [])

-- a part whose row weighs two
abbrev pub heavy_row : Update
heavy_row = record early_row { diff = pos 2 }

unfoldable pub heavy_part : List ℕ
heavy_part = spelling (heavy_row ∷ [])

-- a merge that drops the second row
abbrev pub dropping_batch : Batch
dropping_batch = batch 0 10 (key 1 1) 1

abbrev pub dropping : Transition
dropping = Merge 1 1 early_batch late_batch dropping_batch

abbrev pub dropping_state : ShardState
dropping_state = record state5 { number = 6; members = writer 2 ∷ keeper 6 0 1 ∷ reader ∷ []; batches = dropping_batch ∷ [] }

unfoldable pub dropping_version : List ℕ
dropping_version = version_spelling dropping_state dropping

-- ---- histories with these

-- the first calls, where the writer then sets its key to other bytes than in the worked history
abbrev pub with_part : List ℕ → History
with_part part = first_calls_and 7 0 (Set (key 0 1) part)

-- the first calls, where the keeper then stores the first row alone
abbrev pub with_dropped : History
with_dropped = first_calls_and 14 1 (Set (key 1 1) early_part)

-- the writer commits a state that its append doesn't make
abbrev pub cas_misapplied : History
cas_misapplied = first_calls_and 8 0 (Cas the_shard (Some 3) forgetful_version)

-- the writer appends a row to a range that ends where the row begins
abbrev pub append_out_of_range : History
append_out_of_range = first_calls_and 8 0 (Cas the_shard (Some 3) short_version)

-- the writer appends a part whose rows fall
abbrev pub append_falling : History
append_falling = with_entry (with_part falling_part) (did 0 (Cas the_shard (Some 3) two_rows_version))

-- the writer appends two rows and says one
abbrev pub append_too_many : History
append_too_many = with_entry (with_part merged_part) (did 0 (Cas the_shard (Some 3) few_version))

-- the writer appends a row of weight two and says one
abbrev pub append_too_heavy : History
append_too_heavy = with_entry (with_part heavy_part) (did 0 (Cas the_shard (Some 3) version4))

-- the keeper's merge loses a row
abbrev pub merge_dropping : History
merge_dropping = with_entry with_dropped (did 1 (Cas the_shard (Some 5) dropping_version))
