-- The plain collection: what a collection is to those who use it.
use Rattle.std.specs.Prelude.{ℕ, ◌+◌, ◌^◌, Option, Some, None, List, [], ◌++◌, ◌&&◌, Bool, true, false, nat_lt, nat_le, if◌then◌else◌}
use Rattle.update_core.specs.Limits.{max_weight}
use Rattle.update_core.specs.declared.rows.Row.{Row}
use Rattle.update_core.specs.declared.updates.Update.{Update}
use Rattle.update_core.specs.Frontiers.{covers, is_at, is_from}
use Rattle.update_core.specs.Updates.{cons, sum_of, slice_of}

-- The accepted updates, the time up to which they may have been moved, the frontier up to which they are known,
-- and the sum of the absolute differences that were handed in.
pub record Collection : Type 0 where
  pub updates : List Update
  pub since : ℕ
  pub upper : Option ℕ
  pub weight : ℕ

abbrev pub empty_collection : Collection
empty_collection = record { updates = []; since = 0; upper = Some 0; weight = 0 }

-- what an append is answered
pub data AppendAnswer : Type 0 where
  accepted : AppendAnswer
  mismatch : Option ℕ → AppendAnswer
  heavy : ℕ → AppendAnswer

-- A mismatch exactly where the upper isn't at the append's lower time; else heavy exactly where the weight would pass 2^62.
abbrev pub append_answer : Collection → ℕ → ℕ → AppendAnswer
append_answer c lower weight = if is_at c.upper lower then (if nat_le (c.weight + weight) max_weight then accepted else heavy c.weight) else mismatch c.upper

-- the collection with an accepted append: its updates are followed by the consolidated rows
abbrev pub extended : Collection → List Update → Option ℕ → ℕ → Collection
extended c rows upper weight = record { updates = c.updates ++ cons rows; since = c.since; upper = upper; weight = c.weight + weight }

-- the collection after an append with this answer; only an accepted one changes it
abbrev pub after_answer : AppendAnswer → Collection → List Update → Option ℕ → ℕ → Collection
after_answer accepted c rows upper weight = extended c rows upper weight
after_answer (mismatch u) c rows upper weight = c
after_answer (heavy w) c rows upper weight = c

abbrev pub after_append : Collection → List Update → ℕ → Option ℕ → ℕ → Collection
after_append c rows lower upper weight = after_answer (append_answer c lower weight) c rows upper weight

-- what a snapshot is answered
pub data SnapshotAnswer : Type 0 where
  content : List Row → SnapshotAnswer
  early : ℕ → SnapshotAnswer
  late : Option ℕ → SnapshotAnswer

-- Early exactly where the time is before the since; else late exactly where the upper doesn't cover it; else the content at the time.
abbrev pub snapshot_answer : Collection → ℕ → SnapshotAnswer
snapshot_answer c t = if nat_lt t c.since then early c.since else (if covers c.upper t then content (sum_of c.updates t) else late c.upper)

-- what a listen is answered
pub data ListenAnswer : Type 0 where
  behind : ℕ → ListenAnswer
  ended : ListenAnswer
  quiet : Option ℕ → ListenAnswer
  step : List Update → Option ℕ → ListenAnswer

-- the frontier is after all times
abbrev pub is_closed : Option ℕ → Bool
is_closed None = true
is_closed (Some t) = false

-- the upper is past the frontier; none is past Closed
abbrev pub is_past : Option ℕ → Option ℕ → Bool
is_past upper None = false
is_past upper (Some f) = covers upper f

-- Behind exactly where the since is from the frontier on; else ended exactly where the frontier and the upper are Closed; else a step
-- with the updates from the frontier up to the upper exactly where the upper is past the frontier; else quiet.
abbrev pub listen_answer : Collection → Option ℕ → ListenAnswer
listen_answer c f = if is_from f c.since then behind c.since else (if is_closed f && is_closed c.upper then ended else (if is_past c.upper f then step (slice_of c.updates f c.upper) c.upper else quiet c.upper))
