-- Commands of a compactor, a collector and an expirer in the worked history, and one whose Cas fails.
use Rattle.std.specs.Prelude.{ℕ, [], ◌∷◌, ◌++◌, reverse, Some, None, Option, take}
use Rattle.store_core.specs.declared.calls.Call.TheVariants.{Scan, Cas}
use Rattle.store_core.specs.declared.outcomes.Outcome.TheVariants.{FailedTook}
use Rattle.store_core.specs.Stores.{empty_store}
use Rattle.store_core.specs.Histories.{History, entry_of}
use Rattle.history_core.specs.declared.asked.Asked.{Asked}
use Rattle.history_core.specs.declared.asked.Asked.TheVariants.{Merge, RenewCompactor, OpenCompactor, Collect, Expire}
use Rattle.history_core.specs.Legal.{Command}
use Rattle.history_core.specs.Costs.{Within, WithinReads, merge_base, collect_base, foreign_commits, failed_calls}
use Rattle.worked_histories.specs.Worked.{the_shard, version6}
use Rattle.worked_histories.specs.WorkedTrail.{did, trail}

-- a command of a client's last calls, as this member and under this token
abbrev pub command_by : ℕ → Option ℕ → ℕ → Asked → ℕ → Command
command_by client member token asked calls = record {
  client = client;
  shard = the_shard;
  member = member;
  token = token;
  listen = None;
  asked = asked;
  calls = calls;
}

-- the compactor's open, by a Scan and a Cas, its merge, by a Scan, two Gets, a Set and a Cas, and its renewal, by a Scan and
-- a Cas
abbrev pub the_open : Command
the_open = command_by 1 None 0 (OpenCompactor the_shard 0 100) 2

abbrev pub the_merge : Command
the_merge = command_by 1 (Some 1) 1 Merge 5

abbrev pub the_renewal : Command
the_renewal = command_by 1 (Some 1) 1 (RenewCompactor 50) 2

-- the collection, by a Scan, two Deletes and a Truncate
abbrev pub the_collection : Command
the_collection = command_by 2 None 0 Collect 4

-- the merge's Cas fails and takes effect, and a Scan follows
abbrev pub with_failure : History
with_failure = record {
  start = empty_store;
  trail = take 15 trail ++ entry_of 1 (Cas the_shard (Some 5) version6) FailedTook ∷ did 1 (Scan the_shard 6) ∷ [];
}

abbrev pub the_failed_merge : Command
the_failed_merge = command_by 1 (Some 1) 1 Merge 6

-- a Scan of the empty store, by client 3
abbrev pub empty_scan : History
empty_scan = record { start = empty_store; trail = did 3 (Scan the_shard 0) ∷ [] }

-- all calls, and then a Scan by client 3 for an expiry at this moment
abbrev pub scan_at_end : History
scan_at_end = record { start = empty_store; trail = trail ++ did 3 (Scan the_shard 0) ∷ [] }

abbrev pub the_expiry : ℕ → Command
the_expiry now = command_by 3 None 0 (Expire now) 1

-- a merge that gets and sets so many parts, the last command of its client, makes no more calls than it may
abbrev pub MergeWithin : History → Command → ℕ → ℕ → Type 0
MergeWithin h c got set =
    Within c.calls 0 (merge_base got set) (foreign_commits h.start c.shard c.client c.calls (reverse h.trail))
    (failed_calls c.client c.calls (reverse h.trail))

-- the same of a collection of so many taken keys
abbrev pub CollectWithin : History → Command → ℕ → Type 0
CollectWithin h c keys = WithinReads c.calls 0 (collect_base keys) (failed_calls c.client c.calls (reverse h.trail))
