-- Histories in which a call fails, or comes too late.
use Rattle.std.specs.Prelude.{Some}
use Rattle.store_core.specs.declared.calls.Call.{Call}
use Rattle.store_core.specs.declared.calls.Call.TheVariants.{Cas, Set}
use Rattle.store_core.specs.declared.outcomes.Outcome.{Outcome}
use Rattle.store_core.specs.declared.outcomes.Outcome.TheVariants.{FailedLost}
use Rattle.store_core.specs.Histories.{History, entry_of, with_entry}
use Rattle.worked_histories.specs.Worked.{the_shard, key, early_part, version3, version4}
use Rattle.worked_histories.specs.WorkedTrail.{did, first_calls, first_calls_and}

-- the writer's first append, of which the outcome isn't told
abbrev pub first_append : Call
first_append = Cas the_shard (Some 3) version4

-- the worked history up to its first append, with this outcome
abbrev pub append_with : Outcome → History
append_with outcome = with_entry (first_calls 8) (entry_of 0 first_append outcome)

-- and then the same append again
abbrev pub append_again : Outcome → History
append_again outcome = with_entry (append_with outcome) (did 0 first_append)

-- the writer takes an append that failed for lost, and sets its key again
abbrev pub set_after_failure : History
set_after_failure = with_entry (append_with FailedLost) (did 0 (Set (key 0 1) early_part))

-- the keeper joins once more, at a version that isn't the last any more
abbrev pub too_late : History
too_late = first_calls_and 9 1 (Cas the_shard (Some 2) version3)
