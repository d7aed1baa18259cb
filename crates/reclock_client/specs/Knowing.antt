-- What an operator knows is right, over each front. Entries go newest first.
use Rattle.std.specs.Prelude.{◌≡◌, ◌⊎◌, ℕ, ◌<◌, ◌≤◌, Bool, true, false, Option, Some, None, IfNone, List, []}
use Rattle.update_core.specs.declared.updates.Update.{Update}
use Rattle.update_core.specs.Frontiers.{covers}
use Rattle.update_core.specs.Limits.{most}
use Rattle.update_core.specs.Updates.{sum_of}
use Rattle.store_core.specs.declared.shards.ShardId.{ShardId}
use Rattle.store_core.specs.declared.entries.Entry.{Entry}
use Rattle.store_core.specs.Histories.{History}
use Rattle.store_core.specs.Newest.{replay_back}
use Rattle.store_core.specs.Ports.{with_entries}
use Rattle.store_core.specs.Stores.{Stored}
use Rattle.state_core.specs.States.{ShardState}
use Rattle.history_core.specs.Laws.{LastIs}
use Rattle.history_core.specs.Stands.{accepted}
use Rattle.load_core.specs.Fronts.{Backwards, WhereLawful}
use Rattle.remap_core.specs.declared.source_rows.SourceRow.{SourceRow}
use Rattle.remap_core.specs.Reclocking.{reclocked}
use Rattle.remap_core.specs.RemapShards.{IsBindingsOf}
use Rattle.reclock_client.specs.declared.intakes.Intake.TheVariants as intakes
use Rattle.reclock_client.specs.declared.operators.Operator.{Operator}
use Rattle.reclock_client.specs.Known.{IsRight, Knowledge, knowledge}
use Rattle.reclock_client.specs.Operators.{calls_of}

-- nothing is known
abbrev pub IsBlank : Knowledge → Type 0
IsBlank k = (k.bindings ≡ []) × (k.synced ≡ Some 0)

-- what is known is right of the updates accepted by now, and the upper covers what the synced frontier does
pub record Learned (shard : ShardId) (start : Stored) (es : List Entry) (list : List Update) (k : Knowledge) : Type 0 where
  pub number : ℕ
  pub state : ShardState
  pub last : LastIs (replay_back start es) shard number state
  pub within : (t : ℕ) → covers k.synced t ≡ true → covers state.upper t ≡ true
  pub right : IsRight (accepted shard list start es) k

-- Nothing is known, and no listen goes on; or what is known is right. Nothing is said of a reader whose since is the last time.
abbrev pub KnowsOver : ShardId → Knowledge → Bool → Stored → List Entry → List Update → Type 0
KnowsOver shard k listens start es list = k.since < most → (IsBlank k × (listens ≡ false)) ⊎ Learned shard start es list k

abbrev pub KnowsWhere : Option History → ShardId → Knowledge → Bool → Type 0
KnowsWhere front shard k listens = WhereLawful shard front (Backwards (KnowsOver shard k listens))

-- an operator knows no more than its remap shard tells; where no command is open, all rows that it has read are bound
pub record Knows (front : Option History) (o : Operator) : Type 0 where
  pub bound : IfNone o.course.errand (o.course.intake ≡ intakes.Nothing)
  pub knows : KnowsWhere front o.remap (knowledge o.course) o.course.listens

-- its open or last command has not made the most calls that are counted
abbrev pub Counts : Operator → Type 0
Counts o = calls_of o < most

-- these bindings are those of the accepted updates of a shard, from a since on, up to a frontier
abbrev pub AreBindings : Option History → ShardId → ℕ → Option ℕ → List (ℕ × List ℕ) → Type 0
AreBindings front shard since synced bs =
    WhereLawful shard front (Backwards (λ start es list. since < most → IsBindingsOf (accepted shard list start es) since synced bs))

-- an update list is the rows at the times that such bindings give them
abbrev pub IsReclocked : Option History → ShardId → ℕ → Option ℕ → List SourceRow → List Update → Type 0
IsReclocked front shard since synced rows us = WhereLawful shard front (Backwards (λ start es list. since < most →
    (bs : List (ℕ × List ℕ)) × IsBindingsOf (accepted shard list start es) since synced bs × (us ≡ reclocked rows bs 0)))

-- ---- laws

-- what an operator knows over a history it knows over the history with more entries
abbrev pub KnowsOn : Type 0
KnowsOn = (h : History) (later : List Entry) (o : Operator) → Knows (Some h) o → Knows (Some (with_entries h later)) o

-- two operators of one remap shard, neither with an open command: the collections of equal rows have equal sums at each time from both
-- sinces on that both synced frontiers cover
abbrev pub OperatorsAgree : Type 0
OperatorsAgree = (h : History) (a b : Operator) → Knows (Some h) a → Knows (Some h) b → a.remap ≡ b.remap
    → a.course.errand ≡ None → b.course.errand ≡ None
    → WhereLawful a.remap (Some h) (λ g list. (rows : List SourceRow) (t : ℕ) → a.course.since ≤ t → b.course.since ≤ t
    → a.course.since < most → b.course.since < most
    → covers a.course.synced t ≡ true → covers b.course.synced t ≡ true
    → sum_of (reclocked rows a.course.bindings 0) t ≡ sum_of (reclocked rows b.course.bindings 0) t)
