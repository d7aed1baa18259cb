-- A worked history of one client in which a merge, moved up to a later since, comes to nothing: a row and its undoing cancel.
use Rattle.std.specs.Prelude.{negsuc, List, [], ◌∷◌, Some, None, ℕ}
use Rattle.update_core.specs.declared.updates.Update.{Update}
use Rattle.store_core.specs.declared.calls.Call.TheVariants.{Cas, Get, Set}
use Rattle.store_core.specs.declared.entries.Entry.{Entry}
use Rattle.store_core.specs.Stores.{empty_store}
use Rattle.store_core.specs.Histories.{History}
use Rattle.spine_core.specs.declared.batches.Batch.{Batch}
use Rattle.part_codec.specs.Parts.{spelling}
use Rattle.state_core.specs.declared.members.Member.{Member}
use Rattle.state_core.specs.declared.transitions.Transition.{Transition}
use Rattle.state_core.specs.declared.transitions.Transition.TheVariants.{Advance, Merge}
use Rattle.state_core.specs.States.{ShardState}
use Rattle.version_codec.specs.Versions.{version_spelling}
use Rattle.worked_histories.specs.Worked.{the_shard, key, writer, keeper, reader, early_batch, late_batch, early_part}
use Rattle.worked_histories.specs.Worked.{state5}
use Rattle.worked_histories.specs.Worked.{version0, version1, version2, version3, version4, version5}
use Rattle.worked_histories.specs.WorkedTrail.{did}

-- a is no more from 6 on
abbrev pub undone_row : Update
undone_row = record { datum = 97 ∷ []; time = 6; diff = negsuc 0 }

unfoldable pub undone_part : List ℕ
undone_part = spelling (undone_row ∷ [])

-- the reader gives up the times before 8
abbrev pub advancing : Transition
advancing = Advance 2 8

abbrev pub later_reader : Member
later_reader = record reader { since = 8 }

abbrev pub advanced_state : ShardState
advanced_state = record state5 { number = 6; since = 8; members = writer 2 ∷ keeper 2 0 0 ∷ later_reader ∷ [] }

unfoldable pub advanced_version : List ℕ
advanced_version = version_spelling advanced_state advancing

-- both batches moved to 8, which leaves no row and so no part
abbrev pub bare_batch : Batch
bare_batch = record { desc = record { lower = 0; upper = Some 10; since = 8 }; parts = []; rows = 0 }

abbrev pub compacting : Transition
compacting = Merge 1 1 early_batch late_batch bare_batch

abbrev pub compacted_state : ShardState
compacted_state = record advanced_state {
  number = 7;
  members = writer 2 ∷ keeper 7 0 1 ∷ later_reader ∷ [];
  batches = bare_batch ∷ [];
}

unfoldable pub compacted_version : List ℕ
compacted_version = version_spelling compacted_state compacting

-- the calls, all of client 0
abbrev pub compaction : List Entry
compaction =
    did 0 (Cas the_shard None version0)
    ∷ did 0 (Cas the_shard (Some 0) version1)
    ∷ did 0 (Cas the_shard (Some 1) version2)
    ∷ did 0 (Cas the_shard (Some 2) version3)
    ∷ did 0 (Set (key 0 1) early_part)
    ∷ did 0 (Cas the_shard (Some 3) version4)
    ∷ did 0 (Set (key 0 2) undone_part)
    ∷ did 0 (Cas the_shard (Some 4) version5)
    ∷ did 0 (Cas the_shard (Some 5) advanced_version)
    ∷ did 0 (Get (key 0 1))
    ∷ did 0 (Get (key 0 2))
    ∷ did 0 (Cas the_shard (Some 6) compacted_version)
    ∷ []

abbrev pub compacted : History
compacted = record { start = empty_store; trail = compaction }
