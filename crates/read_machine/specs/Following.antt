-- What a client's own entries say of the reading of a shard. Entries go newest first.
use Rattle.std.specs.Prelude.{⊤, ◌≡◌, ℕ, ◌+◌, ◌<◌, ◌≤◌, None, IsSomeAnd, List, ◌∷◌, ◌++◌, length, take}
use Rattle.std.specs.List.{AllByRecursion}
use Rattle.store_core.specs.declared.part_keys.PartKey.{PartKey}
use Rattle.store_core.specs.declared.calls.Call.{Call}
use Rattle.store_core.specs.declared.calls.Call.TheVariants as calls
use Rattle.store_core.specs.declared.entries.Entry.{Entry}
use Rattle.store_core.specs.Stores.{Stored}
use Rattle.store_core.specs.Newest.{mine_back, replay_back}
use Rattle.state_core.specs.declared.kinds.Kind.{Kind}
use Rattle.state_core.specs.States.{ShardState}
use Rattle.update_core.specs.Limits.{most}
use Rattle.history_core.specs.Costs.{failed_calls, WithinReads, read_base}
use Rattle.history_core.specs.Discipline.{GotAs, Hold}
use Rattle.history_core.specs.Laws.{LastIs}
use Rattle.history_core.specs.Members.{JoinedAs}
use Rattle.history_core.specs.Placing.{IsAnsweredScan, placed}
use Rattle.read_machine.specs.declared.courses.Course.{Course}
use Rattle.read_machine.specs.declared.stages.Stage.{Stage}
use Rattle.read_machine.specs.declared.stages.Stage.TheVariants as stages
use Rattle.read_machine.specs.Questions.{NoScanOf, own_count}

-- a Scan or a Get
abbrev pub IsRead : Call → Type 0
IsRead (calls.Scan shard from) = ⊤
IsRead (calls.Get key) = ⊤
IsRead _ = ⊥

-- Since a Scan of the command, at which s was the last version's state and the member its client's, the client has made Scans and
-- Gets
-- alone.
pub record SinceScan (kind : Kind) (client : ℕ) (c : Course) (start : Stored) (es : List Entry) (s : ShardState) : Type 0 where
  pub later : List Entry
  pub scan : Entry
  pub before : List Entry
  pub split : es ≡ later ++ (scan ∷ before)
  pub own : scan.client ≡ client
  pub answered : IsAnsweredScan c.loader.shard (placed scan before)
  pub last : LastIs (replay_back start before) c.loader.shard s.number s
  pub reads : AllByRecursion (λ e. e.client ≡ client → IsRead e.call) later
  pub member : JoinedAs kind (mine_back start (scan ∷ before) client) c.loader.shard c.member

-- That Scan is the command's last one that was answered, and the rows that are held are those of the bytes that its Gets since
-- then gave.
pub record SinceGot (kind : Kind) (client : ℕ) (c : Course) (start : Stored) (es : List Entry) (s : ShardState) : Type 0 where
  pub since : SinceScan kind client c start es s
  pub quiet : NoScanOf client c.loader.shard since.later
  pub count : c.calls < most → own_count client since.later < c.calls
  pub got : Hold (GotAs (mine_back (replay_back start (since.scan ∷ since.before)) since.later client))
      (take c.getting.place c.getting.keys)
      c.getting.rows

-- no bytes lay under the key when it was last asked for, since that Scan
pub record SinceMissing (kind : Kind) (client : ℕ) (c : Course) (start : Stored) (es : List Entry) (key : PartKey)
    (s : ShardState) : Type 0
  where
    pub since : SinceScan kind client c start es s
    pub rest : List Entry
    pub mid : List Entry
    pub parted : since.later ≡ rest ++ mid
    pub missing : (replay_back start (mid ++ (since.scan ∷ since.before))).blobs key ≡ None

-- what is known, by the stage
abbrev pub FollowsStage : Kind → ℕ → Course → Stored → List Entry → Stage → Type 0
FollowsStage kind client c start es stages.Scan = ⊤
FollowsStage kind client c start es stages.Get = IsSomeAnd c.loader.cached (SinceGot kind client c start es)
FollowsStage kind client c start es (stages.Check key) = IsSomeAnd c.loader.cached (SinceMissing kind client c start es key)

-- the member was joined by the client as this kind
pub record FollowsAsked (kind : Kind) (client : ℕ) (c : Course) (start : Stored) (es : List Entry) : Type 0 where
  pub member : JoinedAs kind (mine_back start es client) c.loader.shard c.member
  pub reading : FollowsStage kind client c start es c.stage

-- ---- what it costs

-- The calls and those that remain, but for further failures: before the Scan there were only failed ones; then one for each part
-- that is
-- left, and one more Scan.
abbrev pub ReadCost : ℕ → Course → Stage → List Entry → Type 0
ReadCost client c stages.Scan es = c.calls ≤ failed_calls client c.calls es
ReadCost client c stages.Get es = WithinReads c.calls 0 (1 + c.getting.place) (failed_calls client c.calls es)
ReadCost client c (stages.Check key) es = WithinReads c.calls 1 (read_base (length c.getting.keys))
    (failed_calls client c.calls es)

-- A command that has ended: at its Scan but for failed calls that was the only call; else it made one for each part of the state
-- that it
-- read from, and two Scans at most.
abbrev pub OverStage : ℕ → Course → Stage → List Entry → Type 0
OverStage client c stages.Scan es = WithinReads c.calls 0 1 (failed_calls client c.calls es)
OverStage client c _ es = WithinReads c.calls 0 (read_base (length c.getting.keys)) (failed_calls client c.calls es)
