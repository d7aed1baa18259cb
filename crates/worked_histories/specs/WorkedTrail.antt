-- The entries of the worked history: client 0 writes, client 1 merges, client 2 reads and then collects.
use Rattle.std.specs.Prelude.{ℕ, List, [], ◌∷◌, Some, None, take}
use Rattle.store_core.specs.declared.calls.Call.{Call}
use Rattle.store_core.specs.declared.calls.Call.TheVariants.{Scan, Cas, Truncate, Get, Set, Delete}
use Rattle.store_core.specs.declared.outcomes.Outcome.TheVariants.{Took}
use Rattle.store_core.specs.declared.entries.Entry.{Entry}
use Rattle.store_core.specs.Stores.{empty_store}
use Rattle.store_core.specs.Histories.{History, entry_of, with_entry}
use Rattle.worked_histories.specs.Worked.{the_shard, key, early_part, late_part, merged_part, version0, version1, version2}
use Rattle.worked_histories.specs.Worked.{version3, version4, version5, version6, version7, version8}

-- a client's call that took effect and was answered
abbrev pub did : ℕ → Call → Entry
did client call = entry_of client call Took

-- the calls in order
abbrev pub trail : List Entry
trail =
    did 0 (Cas the_shard None version0)
    ∷ did 0 (Cas the_shard (Some 0) version1)
    ∷ did 1 (Scan the_shard 0)
    ∷ did 1 (Cas the_shard (Some 1) version2)
    ∷ did 2 (Scan the_shard 0)
    ∷ did 2 (Cas the_shard (Some 2) version3)
    ∷ did 0 (Scan the_shard 2)
    ∷ did 0 (Set (key 0 1) early_part)
    ∷ did 0 (Cas the_shard (Some 3) version4)
    ∷ did 0 (Set (key 0 2) late_part)
    ∷ did 0 (Cas the_shard (Some 4) version5)
    ∷ did 1 (Scan the_shard 3)
    ∷ did 1 (Get (key 0 1))
    ∷ did 1 (Get (key 0 2))
    ∷ did 1 (Set (key 1 1) merged_part)
    ∷ did 1 (Cas the_shard (Some 5) version6)
    ∷ did 2 (Scan the_shard 0)
    ∷ did 2 (Cas the_shard (Some 6) version7)
    ∷ did 1 (Scan the_shard 7)
    ∷ did 1 (Cas the_shard (Some 7) version8)
    ∷ did 2 (Scan the_shard 0)
    ∷ did 2 (Delete (key 0 1))
    ∷ did 2 (Delete (key 0 2))
    ∷ did 2 (Truncate the_shard 8)
    ∷ []

-- the history of the first n calls, from the empty store
abbrev pub first_calls : ℕ → History
first_calls n = record { start = empty_store; trail = take n trail }

-- the history of all calls
abbrev pub worked : History
worked = record { start = empty_store; trail = trail }

-- the first n calls, and then another
abbrev pub first_calls_and : ℕ → ℕ → Call → History
first_calls_and n client call = with_entry (first_calls n) (did client call)
