-- Two worked histories that go on from the two appends, while the reader holds their parts. In one it renews its lease, a
-- collector stops halfway, and another goes on; in the other its lease runs out.
use Rattle.std.specs.Prelude.{ℕ, List, [], ◌∷◌, ◌++◌, Some, None, take}
use Rattle.store_core.specs.declared.calls.Call.TheVariants.{Scan, Cas, Truncate, Get, Set, Delete}
use Rattle.store_core.specs.declared.entries.Entry.{Entry}
use Rattle.store_core.specs.Stores.{empty_store}
use Rattle.store_core.specs.Histories.{History}
use Rattle.state_core.specs.declared.members.Member.{Member}
use Rattle.state_core.specs.declared.transitions.Transition.{Transition}
use Rattle.state_core.specs.declared.transitions.Transition.TheVariants.{Renew, Expire}
use Rattle.state_core.specs.States.{ShardState}
use Rattle.version_codec.specs.Versions.{version_spelling}
use Rattle.history_core.specs.declared.asked.Asked.TheVariants.{Snapshot, Collect}
use Rattle.history_core.specs.Legal.{Command}
use Rattle.worked_histories.specs.Worked.{the_shard, key, writer, keeper, reader, state6, merged_part, version6}
use Rattle.worked_histories.specs.WorkedTrail.{did, trail}

-- the reader scans for a snapshot, and then the keeper merges what it has seen
abbrev pub merging : List Entry
merging =
    did 2 (Scan the_shard 3)
    ∷ did 1 (Scan the_shard 3)
    ∷ did 1 (Get (key 0 1))
    ∷ did 1 (Get (key 0 2))
    ∷ did 1 (Set (key 1 1) merged_part)
    ∷ did 1 (Cas the_shard (Some 5) version6)
    ∷ []

-- a snapshot of the reader's
abbrev pub snapshot_by : ℕ → Command
snapshot_by calls = record {
  client = 2;
  shard = the_shard;
  member = Some 2;
  token = 0;
  listen = None;
  asked = Snapshot 9;
  calls = calls;
}

-- ---- the reader renews its lease

abbrev pub renewing : Transition
renewing = Renew 2 50

abbrev pub renewed_reader : Member
renewed_reader = record reader { hold = 7; beat = 50 }

abbrev pub renewed_state : ShardState
renewed_state = record state6 { number = 7; members = writer 2 ∷ keeper 6 0 1 ∷ renewed_reader ∷ [] }

unfoldable pub renewed_version : List ℕ
renewed_version = version_spelling renewed_state renewing

-- the reader gets both parts that the merge took
abbrev pub read_late : List Entry
read_late = take 11 trail ++ merging ++ did 2 (Get (key 0 1)) ∷ did 2 (Get (key 0 2)) ∷ []

-- it renews its lease; client 3 deletes one of them and stops
abbrev pub halfway : List Entry
halfway =
    read_late ++ did 2 (Scan the_shard 6)
    ∷ did 2 (Cas the_shard (Some 6) renewed_version)
    ∷ did 3 (Scan the_shard 0)
    ∷ did 3 (Delete (key 0 1))
    ∷ []

-- client 4 collects, and the reader reads again
abbrev pub collected_after : List Entry
collected_after =
    halfway ++ did 4 (Scan the_shard 0)
    ∷ did 4 (Delete (key 0 1))
    ∷ did 4 (Delete (key 0 2))
    ∷ did 4 (Truncate the_shard 6)
    ∷ []

abbrev pub read_again : List Entry
read_again = collected_after ++ did 2 (Scan the_shard 7) ∷ did 2 (Get (key 1 1)) ∷ []

-- the history of these entries from the empty store
abbrev pub of_entries : List Entry → History
of_entries es = record { start = empty_store; trail = es }

-- the other collector's command, of its last four calls
abbrev pub the_other_collection : Command
the_other_collection = record { client = 4; shard = the_shard; member = None; token = 0; listen = None; asked = Collect; calls = 4 }

-- ---- the reader's lease runs out

-- the keeper renews its hold
abbrev pub keeping : Transition
keeping = Renew 1 50

abbrev pub kept_state : ShardState
kept_state = record state6 { number = 7; members = writer 2 ∷ keeper 7 50 1 ∷ reader ∷ [] }

unfoldable pub kept_version : List ℕ
kept_version = version_spelling kept_state keeping

-- the reader's lease has run out at 120, the keeper's hasn't
abbrev pub expiring : Transition
expiring = Expire 120

abbrev pub expired_state : ShardState
expired_state = record kept_state { number = 8; members = writer 2 ∷ keeper 7 50 1 ∷ [] }

unfoldable pub expired_version : List ℕ
expired_version = version_spelling expired_state expiring

-- client 3 removes the reader and collects, before the reader has got a part
abbrev pub expired : List Entry
expired =
    take 11 trail ++ merging ++ did 1 (Cas the_shard (Some 6) kept_version)
    ∷ did 3 (Scan the_shard 0)
    ∷ did 3 (Cas the_shard (Some 7) expired_version)
    ∷ did 3 (Scan the_shard 0)
    ∷ did 3 (Delete (key 0 1))
    ∷ did 3 (Delete (key 0 2))
    ∷ did 3 (Truncate the_shard 7)
    ∷ []

-- the reader finds a part gone, and scans
abbrev pub told_expired : List Entry
told_expired = expired ++ did 2 (Get (key 0 1)) ∷ did 2 (Scan the_shard 6) ∷ []
