-- That an operator's poll over collections is never Damaged, and why it is answered Foreign. Entries go newest first.
use Rattle.std.specs.Prelude.{◌≡◌, ◌⊎◌, ℕ, ◌<◌, Option, Some, IfSome, IsSome, List}
use Rattle.update_core.specs.declared.updates.Update.{Update}
use Rattle.update_core.specs.Limits.{most}
use Rattle.store_core.specs.declared.shards.ShardId.{ShardId}
use Rattle.store_core.specs.Histories.{History}
use Rattle.history_core.specs.Discipline.{Lawful}
use Rattle.history_core.specs.Stands.{StandsFor, accepted}
use Rattle.load_core.specs.declared.damages.Damage.{Damage}
use Rattle.load_core.specs.declared.polls.Poll.TheVariants as polls
use Rattle.load_core.specs.Fronts.{Backwards, WhereLawful}
use Rattle.update_core.specs.Updates.{slice_of, sum_of}
use Rattle.remap_core.specs.Extending.{reached, rows_at}
use Rattle.remap_core.specs.Offsets.{unset}
use Rattle.reclock_client.specs.declared.clock_answers.ClockAnswer.TheVariants as clocks
use Rattle.reclock_client.specs.declared.operators.Operator.{Operator}
use Rattle.reclock_client.specs.Known.{known}
use Rattle.reclock_client.specs.Reading.{foreign_time}
use Rattle.reclock_client.specs.Knowing.{Counts, Knows}
use Rattle.reclock_client.specs.Polling.{Polled}

-- the front isn't a lawful one that starts as a collection for both shards
abbrev pub IsNoCollection : Option History → ShardId → ShardId → Type 0
IsNoCollection front remap_at data_at = IfSome front (λ h. (list data_list : List Update) → StandsFor h.start remap_at list →
    StandsFor h.start data_at data_list → Lawful h → ⊥)

-- A poll of an operator that knows what its remap shard tells is Damaged only over a front that is no collection. Nothing is said of a
-- reader whose since is the last time.
abbrev pub NeverDamaged : Type 0
NeverDamaged = (client : ℕ) (front now : Option History) (o new : Operator) (damage : Damage) → IsSome o.course.errand → Knows front o
    → Polled client front now o new (polls.Damaged damage) → Counts new → o.course.since < most → IsNoCollection now o.remap o.data_shard

-- At this time is the first row that is foreign: of the content at a since, or of the updates from a frontier on up to another, after these
-- bindings.
abbrev pub IsForeignIn : List Update → ℕ → Option ℕ → List (ℕ × List ℕ) → ℕ → Type 0
IsForeignIn us since synced bs t = (foreign_time unset (rows_at since (sum_of us since)) ≡ Some t) ⊎
    ((to : Option ℕ) × (foreign_time (reached bs) (slice_of us synced to) ≡ Some t))

-- Over a lawful front that starts as a collection of the remap shard, a Foreign answer has its cause among the accepted updates: in the
-- content at the reader's since, or past the synced frontier and what is known up to there.
abbrev pub ForeignCauses : Type 0
ForeignCauses = (client : ℕ) (front now : Option History) (o new : Operator) (t : ℕ) → IsSome o.course.errand
    → Polled client front now o new (polls.Done (clocks.Foreign t)) → Counts new
    → WhereLawful o.remap now (Backwards (λ start es list.
    IsForeignIn (accepted o.remap list start es) o.course.since o.course.synced (known o.course) t))
