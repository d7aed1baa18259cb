-- A look at a shard: how far it has come. Entries go newest first.
use Rattle.std.specs.Prelude.{⊤, ◌≡◌, ◌⊎◌, ℕ, Option, Some, None, Result, Ok, Err, List}
use Rattle.update_core.specs.declared.updates.Update.{Update}
use Rattle.update_core.specs.Collections.{Collection}
use Rattle.store_core.specs.declared.shards.ShardId.{ShardId}
use Rattle.store_core.specs.declared.entries.Entry.{Entry}
use Rattle.store_core.specs.Stores.{Stored}
use Rattle.state_core.specs.declared.transitions.Transition.TheVariants.{Init}
use Rattle.state_core.specs.States.{ShardState}
use Rattle.history_core.specs.Legal.{AtLast}
use Rattle.history_core.specs.Placing.{AtLastScan, Placed, store_at}
use Rattle.history_core.specs.Stands.{end_of}
use Rattle.load_core.specs.declared.polls.Poll.TheVariants as polls
use Rattle.machine_core.specs.Machines.{Words}
use Rattle.try_machine.specs.declared.tryers.Tryer.{Tryer}
use Rattle.try_machine.specs.Rules.{Rules}
use Rattle.try_machine.specs.Tryers.{TryKept, words}
use Rattle.plain_run.specs.declared.session_faults.SessionFault.{SessionFault}
use Rattle.plain_run.specs.Drives.{Failed}
use Rattle.plain_run.specs.PlainRuns.{View}
use Rattle.plain_run.specs.Sessions.{StartsAt, ViewAt}
use Rattle.ingest_run.specs.declared.extents.Extent.{Extent}
use Rattle.ingest_run.specs.declared.looks.Look.{Look}

-- how far the newest state has come; 0 where there is none
abbrev pub extent_of : Option ShardState → Extent
extent_of None = record { upper = Some 0; weight = 0 }
extent_of (Some s) = record { upper = s.upper; weight = s.weight }

-- at a place the shard has no version, and has come nowhere, or its last version has come so far
abbrev pub ExtentAt : Stored → ShardId → Extent → Placed → Type 0
ExtentAt start shard x p =
    ((x ≡ extent_of None) × (end_of ((store_at start p).logs shard) ≡ 0)) ⊎ AtLast start shard (λ n s. x ≡ extent_of (Some s)) p

-- a look is answered with how far the shard has come at its last Scan
abbrev pub looking : Rules Look Extent
looking = record {
  Fixed = ⊤;
  fixed = λ r. tt;
  step = λ f. Init;
  looked = λ r newest. r;
  empty = λ r. Some (extent_of None);
  committed = λ r newest version. extent_of newest;
  refused = λ r newest refusal. polls.Done (extent_of newest);
  Knows = λ f shard own. ⊤;
  Legal = λ f shard start ps x. AtLastScan shard (ExtentAt start shard x) ps;
}

-- a look, as a machine
abbrev pub machine : Words (Tryer Look) Extent
machine = words looking

-- what stays of it while it goes on
abbrev pub kept_look : ShardId → TryKept ⊤
kept_look shard = record { fixed = Some tt; shard = shard; step = Init }

-- the collection has come so far
pub record Reaches (c : Collection) (x : Extent) : Type 0 where
  pub upper : x.upper ≡ c.upper
  pub weight : x.weight ≡ c.weight

-- what has become of a look: what a run starts from stays, and what a reader sees, and the answer is how far that has come
pub record Saw (shard : ShardId) (x : Extent) (list : List Update) (start : Stored) (es now : List Entry) : Type 0 where
  pub starts : (view : View) → StartsAt shard list start es view → StartsAt shard list start now view × Reaches view.collection x
  pub reads : (reader : ℕ) (view : View) → ViewAt shard list start es reader view →
      ViewAt shard list start now reader view × Reaches view.collection x

abbrev pub Looks : ShardId → Result Extent SessionFault → List Update → Stored → List Entry → List Entry → Type 0
Looks shard (Ok x) list start es now = Saw shard x list start es now
Looks shard (Err fault) list start es now = Failed shard fault start es now
