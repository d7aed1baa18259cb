-- Commands in the worked history: the second append, and what a fourth client reads after all calls.
use Rattle.std.specs.Prelude.{ℕ, pos, List, [], ◌∷◌, ◌++◌, reverse, Some, None}
use Rattle.update_core.specs.declared.rows.Row.{Row}
use Rattle.store_core.specs.declared.part_keys.PartKey.{PartKey}
use Rattle.store_core.specs.declared.calls.Call.TheVariants.{Scan, Get}
use Rattle.store_core.specs.Stores.{empty_store}
use Rattle.store_core.specs.Histories.{History}
use Rattle.state_core.specs.States.{ShardState}
use Rattle.history_core.specs.declared.asked.Asked.{Asked}
use Rattle.history_core.specs.declared.asked.Asked.TheVariants.{Append, Snapshot, Listen}
use Rattle.history_core.specs.Legal.{Command, PartsGot, entries_of}
use Rattle.history_core.specs.Costs.{Within, WithinReads, append_base, read_base, foreign_commits, failed_calls}
use Rattle.worked_histories.specs.Worked.{the_shard, key, late_row}
use Rattle.worked_histories.specs.WorkedTrail.{did, trail}

-- the second append, a command of the writer's last two calls: one Set and one Cas
abbrev pub second_append : Command
second_append = record {
  client = 0;
  shard = the_shard;
  member = Some 0;
  token = 2;
  listen = None;
  asked = Append (late_row ∷ []) 5 (Some 10);
  calls = 2;
}

-- all calls, and then a Scan by client 3
abbrev pub with_scan : History
with_scan = record { start = empty_store; trail = trail ++ did 3 (Scan the_shard 8) ∷ [] }

-- and a Get of the merged part by that client
abbrev pub with_read : History
with_read = record { start = empty_store; trail = trail ++ did 3 (Scan the_shard 8) ∷ did 3 (Get (key 1 1)) ∷ [] }

-- client 3 asks this by its last so many calls, as a member that stands
abbrev pub asked_by : ℕ → Asked → Command
asked_by calls asked = record {
  client = 3;
  shard = the_shard;
  member = Some 0;
  token = 0;
  listen = None;
  asked = asked;
  calls = calls;
}

-- a snapshot at 9 by a Scan and a Get, one at 10 by a Scan, and a listen from after 4 by a Scan and a Get
abbrev pub snapshot_at_9 : Command
snapshot_at_9 = asked_by 2 (Snapshot 9)

abbrev pub snapshot_at_10 : Command
snapshot_at_10 = asked_by 1 (Snapshot 10)

abbrev pub listen_after_4 : Command
listen_after_4 = asked_by 2 (Listen 4)

-- a row of a datum of one byte that counts once
abbrev pub row_of : ℕ → Row
row_of byte = record { datum = byte ∷ []; diff = pos 1 }

-- these parts of the last version were got since the last Scan of a command, the last one of its client
abbrev pub GotBy : History → Command → (ShardState → List PartKey) → Type 0
GotBy h c parts = PartsGot h.start c.shard parts (entries_of c (reverse h.trail))

-- an append of so many parts, the last command of its client, makes no more calls than it may
abbrev pub AppendWithin : History → Command → ℕ → Type 0
AppendWithin h c parts =
    Within c.calls 0 (append_base parts) (foreign_commits h.start c.shard c.client c.calls (reverse h.trail))
    (failed_calls c.client c.calls (reverse h.trail))

-- the same of a snapshot or a listen that reads so many parts
abbrev pub ReadWithin : History → Command → ℕ → Type 0
ReadWithin h c parts = WithinReads c.calls 0 (read_base parts) (failed_calls c.client c.calls (reverse h.trail))
