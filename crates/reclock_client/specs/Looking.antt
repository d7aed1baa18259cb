-- A look at a shard's upper. Entries go newest first.
use Rattle.std.specs.Prelude.{⊤, ◌≡◌, ◌⊎◌, ℕ, Option, Some, None}
use Rattle.store_core.specs.declared.shards.ShardId.{ShardId}
use Rattle.store_core.specs.Stores.{Stored}
use Rattle.state_core.specs.declared.transitions.Transition.TheVariants.{Init}
use Rattle.state_core.specs.States.{ShardState}
use Rattle.history_core.specs.Legal.{AtLast}
use Rattle.history_core.specs.Placing.{AtLastScan, Placed, store_at}
use Rattle.history_core.specs.Stands.{end_of}
use Rattle.load_core.specs.declared.polls.Poll.TheVariants as polls
use Rattle.machine_core.specs.Machines.{Words}
use Rattle.try_machine.specs.declared.tryers.Tryer.{Tryer}
use Rattle.try_machine.specs.Rules.{Rules}
use Rattle.try_machine.specs.Tryers.{words}
use Rattle.reclock_client.specs.declared.looks.Look.{Look}

-- the upper of the newest state; 0 where there is none
abbrev pub upper_of : Option ShardState → Option ℕ
upper_of None = Some 0
upper_of (Some s) = s.upper

-- at a place the shard has no version and the upper is 0, or its last version has this upper
abbrev pub UpperAt : Stored → ShardId → Option ℕ → Placed → Type 0
UpperAt start shard upper p =
    ((upper ≡ Some 0) × (end_of ((store_at start p).logs shard) ≡ 0)) ⊎ AtLast start shard (λ n s. s.upper ≡ upper) p

-- a look is answered with the upper that its last Scan shows
abbrev pub looking : Rules Look (Option ℕ)
looking = record {
  Fixed = ⊤;
  fixed = λ r. tt;
  step = λ f. Init;
  looked = λ r newest. r;
  empty = λ r. Some (Some 0);
  committed = λ r newest version. upper_of newest;
  refused = λ r newest refusal. polls.Done (upper_of newest);
  Knows = λ f shard own. ⊤;
  Legal = λ f shard start ps upper. AtLastScan shard (UpperAt start shard upper) ps;
}

-- a look, as a machine
abbrev pub machine : Words (Tryer Look) (Option ℕ)
machine = words looking
