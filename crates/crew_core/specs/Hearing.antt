-- What a listen has heard. docs/DEFINITIONS.md, "Crews".
use Rattle.std.specs.Prelude.{◌≡◌, ◌⊎◌, ℕ, false, Option, List, [], ◌++◌}
use Rattle.std.specs.Ordering.{is_gt}
use Rattle.update_core.specs.declared.updates.Update.{Update}
use Rattle.update_core.specs.Collections.{listen_answer, step}
use Rattle.update_core.specs.Frontiers.{after, frontier_cmp}
use Rattle.update_core.specs.Updates.{slice_of}
use Rattle.store_core.specs.declared.shards.ShardId.{ShardId}
use Rattle.store_core.specs.declared.entries.Entry.{Entry}
use Rattle.store_core.specs.Histories.{History, store_after}
use Rattle.store_core.specs.Ports.{with_entries}
use Rattle.state_core.specs.States.{ShardState}
use Rattle.history_core.specs.Discipline.{Lawful}
use Rattle.history_core.specs.Laws.{LastIs}
use Rattle.history_core.specs.Legal.{collection_in}
use Rattle.history_core.specs.Stands.{StandsFor, accepted_of}

-- At this place a listen from after a time has heard, up to the upper there, the updates accepted until then from its start on, as one
-- slice.
pub record HasHeard (shard : ShardId) (list : List Update) (as_of : ℕ) (rows : List Update) (frontier : Option ℕ) (h : History) :
    Type 0 where
  pub number : ℕ
  pub state : ShardState
  pub last : LastIs (store_after h) shard number state
  pub upper : frontier ≡ state.upper
  pub past : is_gt (frontier_cmp (after as_of) frontier) ≡ false
  pub slice : rows ≡ slice_of (accepted_of shard list h) (after as_of) frontier

-- At some place until then it has; or it has heard nothing, and is at its start.
pub record HasHeardOnce (shard : ShardId) (list : List Update) (as_of : ℕ) (rows : List Update) (frontier : Option ℕ) (h : History) :
    Type 0 where
  pub older : List Entry
  pub newer : List Entry
  pub split : h.trail ≡ older ++ newer
  pub heard : HasHeard shard list as_of rows frontier (record { start = h.start; trail = older })

abbrev pub HeardAs : ShardId → List Update → ℕ → List Update → Option ℕ → History → Type 0
HeardAs shard list as_of rows frontier h =
    ((rows ≡ []) × (frontier ≡ after as_of)) ⊎ HasHeardOnce shard list as_of rows frontier h

-- ---- laws

-- What a listen has heard it has heard also once more entries have come.
abbrev pub HeardStays : Type 0
HeardStays =
    (shard : ShardId) (list : List Update) (as_of : ℕ) (rows : List Update) (frontier : Option ℕ) (h : History) (later : List Entry) →
    HeardAs shard list as_of rows frontier h → HeardAs shard list as_of rows frontier (with_entries h later)

-- A step from its frontier, answered at some later place, makes of what it has heard what it has heard up to the upper there.
abbrev pub HearsOn : Type 0
HearsOn =
    (shard : ShardId) (list : List Update) (h : History) → StandsFor h.start shard list → Lawful h →
    (as_of : ℕ) (rows : List Update) (frontier : Option ℕ) → HeardAs shard list as_of rows frontier h →
    (number : ℕ) (state : ShardState) → LastIs (store_after h) shard number state → (more : List Update) (to : Option ℕ) →
    listen_answer (collection_in (accepted_of shard list h) state) frontier ≡ step more to →
    HasHeard shard list as_of (rows ++ more) to h
